-- Two calls in a row (2026-05) as a host has them: from the promises of `ulgenzhir_check_wedge`, `ulgenzhir_walk_wedge` and the two on stacks, with the flattened answers.
-- Statements only, over the words of `Demands`. They are proved in `RowProved`.
use Rattle.std.specs.Prelude.{◌≡◌, ◌⊎◌, List, ℕ, ◌≤◌, ℤ}
use Rattle.rules.specs.declared.Vector.{Vector}
use Rattle.rules.specs.declared.Wedge.{Wedge}
use Rattle.rules.specs.declared.Stack.{Stack}
use Rattle.rules.specs.declared.Accepted.{Accepted as AcceptedPick}
use Rattle.rules.specs.Vectors.{origin}
use Rattle.slope.specs.Demands.{Inputs, of_wedge, of_stack}
use Rattle.slope.specs.Demands as Demands
use Rattle.slope.specs.Base as Base
use Rattle.flat.specs.declared.FlatPick.{FlatPick}
use Rattle.flat.specs.declared.FlatReady.{FlatReady}
use Rattle.flat.specs.declared.FlatCheck.{FlatCheck}
use Rattle.flat.specs.Flat.{no_ready}
use Rattle.panel.specs.Promises.{PickedWedge, PickedStack, CheckedWedge, CheckedStack, WalkedWedge, WalkedStack}
use Rattle.host.specs.Demands.{FlatDemanded, FlatSame}

-- ---- two calls in a row, with what each promises. Where the check's number is not 0 the host has that refusal, as a pick's: a check takes no step
abbrev pub refusal_of : FlatCheck → FlatPick
refusal_of c = record { number = c.number; place = c.place; steps = 0; looks = c.looks; normal = origin; m0 = origin; m1 = origin; m2 = origin; apex = origin }

-- else what the walk answers from the ready start that stands in the check's answer
pub data FlatRow (Checks : FlatCheck → Type 0) (Walks : FlatReady → FlatPick → Type 0) (r : FlatPick) : Type 0 where
  check_refuses : (c : FlatCheck) → Checks c → 1 ≤ c.number → r ≡ refusal_of c → FlatRow Checks Walks r
  walk_answers : (c : FlatCheck) → Checks c → c.number ≡ 0 → Walks c.ready r → FlatRow Checks Walks r

abbrev pub WedgeRow : Wedge → Vector → ℤ → ℤ → FlatPick → Type 0
WedgeRow wedge p frame reach = FlatRow (CheckedWedge wedge p frame reach) (λ d. WalkedWedge wedge d frame reach)

abbrev pub StackRow : Stack → List ℕ → Vector → ℤ → ℤ → FlatPick → Type 0
StackRow stack bytes p frame reach = FlatRow (CheckedStack stack bytes p frame reach) (λ d. WalkedStack stack bytes d frame reach)

-- a host's two calls in a row with these inputs may answer r; and the first of them c
pub data RowCalled (i : Inputs) (r : FlatPick) : Type 0 where
  wedge_row : (wedge : Wedge) (p : Vector) (frame reach : ℤ) → i ≡ of_wedge wedge p frame reach → WedgeRow wedge p frame reach r → RowCalled i r
  stack_row : (stack : Stack) (bytes : List ℕ) (p : Vector) (frame reach : ℤ) → i ≡ of_stack stack bytes p frame reach → StackRow stack bytes p frame reach r → RowCalled i r

pub data CheckCalled (i : Inputs) (c : FlatCheck) : Type 0 where
  wedge_checked : (wedge : Wedge) (p : Vector) (frame reach : ℤ) → i ≡ of_wedge wedge p frame reach → CheckedWedge wedge p frame reach c → CheckCalled i c
  stack_checked : (stack : Stack) (bytes : List ℕ) (p : Vector) (frame reach : ℤ) → i ≡ of_stack stack bytes p frame reach → CheckedStack stack bytes p frame reach c → CheckCalled i c

-- number 0: the ready start is set, and the looks are its own; else 1 to 8, and it is all zero
abbrev pub Lit : FlatCheck → Type 0
Lit c = (c.number ≡ 0) × (c.place ≡ origin) × (c.looks ≡ c.ready.looks)

abbrev pub NotLit : FlatCheck → Type 0
NotLit c = (1 ≤ c.number) × (c.number ≤ 8) × (c.ready ≡ no_ready)

-- ---- the demand, over what is assumed of one pick, of a wedge and of two picks, and what is asked of an accepted one
pub record HostRowDemand (OnSlope : Vector → ℤ → Inputs → Type 0) (OnWedge : ℤ → Vector → Wedge → Vector → ℤ → ℤ → Type 0) (Together : Inputs → Inputs → Type 0)
    (AcceptedWith : Vector → Inputs → AcceptedPick → Type 0) : Type 0 where
  pub one_row : (n : Vector) (t : ℤ) (i : Inputs) → OnSlope n t i → (r : FlatPick) → RowCalled i r → FlatDemanded (AcceptedWith n i) i r
  pub wedge_row : (g : ℤ) (n : Vector) (wedge : Wedge) (p : Vector) (frame reach : ℤ) → OnWedge g n wedge p frame reach
      → (r : FlatPick) → WedgeRow wedge p frame reach r → FlatDemanded (AcceptedWith n (of_wedge wedge p frame reach)) (of_wedge wedge p frame reach) r
  pub two_rows : (n : Vector) (t u : ℤ) (i j : Inputs) → OnSlope n t i → OnSlope n u j → Together i j → (a b : FlatPick) → RowCalled i a → RowCalled j b → a.number ≡ 0 → b.number ≡ 0 → FlatSame a b

pub record HostTwoCalls : Type 0 where
  -- every check
  pub checked : (i : Inputs) (c : FlatCheck) → CheckCalled i c → Lit c ⊎ NotLit c
  -- every two calls in a row: what they answer keeps the promise of `ulgenzhir_pick_wedge` or `ulgenzhir_pick_stack`
  pub wedge_promise : (wedge : Wedge) (p : Vector) (frame reach : ℤ) (r : FlatPick) → WedgeRow wedge p frame reach r → PickedWedge wedge p frame reach r
  pub stack_promise : (stack : Stack) (bytes : List ℕ) (p : Vector) (frame reach : ℤ) (r : FlatPick) → StackRow stack bytes p frame reach r → PickedStack stack bytes p frame reach r
  pub demand3 : HostRowDemand Demands.OnSlope Demands.OnWedge (λ i j. i.frame ≡ j.frame) Demands.AcceptedWith
  pub base_demand3 : HostRowDemand Base.OnSlope Base.OnWedge (λ i j. Unit {0}) Base.AcceptedWith
