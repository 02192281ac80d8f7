-- Document 02's 2026-05: demand 3 read for the start check and the walk in a row, from what the entry points promise. Statements only, over `Demands` and `Base`.
-- They are proved: `two-calls : TwoCalls` in `RowProved`, `row-not-empty : RowNotEmpty` in `RowCases`.
use Rattle.std.specs.Prelude.{◌≡◌, true, false, List, ℕ, ℤ, pos, negsuc}
use Rattle.rules.specs.declared.Vector.{Vector}
use Rattle.rules.specs.declared.Wedge.{Wedge}
use Rattle.rules.specs.declared.Stack.{Stack}
use Rattle.rules.specs.declared.Levels.{Levels}
use Rattle.rules.specs.declared.ReadyStart.{ReadyStart}
use Rattle.rules.specs.Answers.{Check, Pick}
use Rattle.std.specs.Prelude.{Ok as Ready, Err as CheckRefused, Ok as Accepted, Err as Refused}
use Rattle.rules.specs.declared.Accepted.{Accepted as AcceptedPick}
use Rattle.rules.specs.declared.Refused.{Refused as RefusedPick}
use Rattle.rules.specs.Vectors.{vector}
use Rattle.rules.specs.Walk.{levels, none_level}
use Rattle.rules.specs.Pick.{WedgePromise, StackPromise}
use Rattle.rules.specs.TwoCalls.{ready_start, check_of, walk_of, WedgeCheckPromise, StackCheckPromise, WedgeWalkPromise, StackWalkPromise}
use Rattle.slope.specs.Stair.{stair, stair_bytes}
use Rattle.slope.specs.Demands as Demands
use Rattle.slope.specs.Demands.{Inputs, apex_of, OnSlope, RefusedOutside, OneOf, Same, of_wedge, of_stack, at, line}
use Rattle.slope.specs.Base as Base

-- ---- two calls in a row, with what each promises: the check's refusal is the answer, else the walk's from the ready start that the check handed back
pub data InARow (Checks : Check → Type 0) (Walks : ReadyStart → Pick → Type 0) (r : Pick) : Type 0 where
  check_refuses : (e : RefusedPick) → Checks (CheckRefused e) → r ≡ Refused e → InARow Checks Walks r
  walk_answers : (d : ReadyStart) → Checks (Ready d) → Walks d r → InARow Checks Walks r

abbrev pub WedgeRow : Wedge → Vector → ℤ → ℤ → Pick → Type 0
WedgeRow wedge p frame reach = InARow (WedgeCheckPromise wedge p frame reach) (λ d. WedgeWalkPromise wedge d frame reach)

abbrev pub StackRow : Stack → List ℕ → Vector → ℤ → ℤ → Pick → Type 0
StackRow stack bytes p frame reach = InARow (StackCheckPromise stack bytes p frame reach) (λ d. StackWalkPromise stack bytes d frame reach)

-- two calls in a row with these inputs may answer r
pub data RowOf (i : Inputs) (r : Pick) : Type 0 where
  wedge_row : (wedge : Wedge) (p : Vector) (frame reach : ℤ) → i ≡ of_wedge wedge p frame reach → WedgeRow wedge p frame reach r → RowOf i r
  stack_row : (stack : Stack) (bytes : List ℕ) (p : Vector) (frame reach : ℤ) → i ≡ of_stack stack bytes p frame reach → StackRow stack bytes p frame reach r → RowOf i r

-- ---- the demand, over what is assumed of one pick, of a wedge and of two picks, and what is asked of an accepted one
pub record RowDemand (OnSlope : Vector → ℤ → Inputs → Type 0) (OnWedge : ℤ → Vector → Wedge → Vector → ℤ → ℤ → Type 0) (Together : Inputs → Inputs → Type 0)
    (AcceptedWith : Vector → Inputs → AcceptedPick → Type 0) : Type 0 where
  pub one_row : (n : Vector) (t : ℤ) (i : Inputs) → OnSlope n t i → (r : Pick) → RowOf i r → OneOf (AcceptedWith n i) (RefusedOutside i) r
  pub wedge_row : (g : ℤ) (n : Vector) (wedge : Wedge) (p : Vector) (frame reach : ℤ) → OnWedge g n wedge p frame reach
      → (r : Pick) → WedgeRow wedge p frame reach r → OneOf (AcceptedWith n (of_wedge wedge p frame reach)) (RefusedOutside (of_wedge wedge p frame reach)) r
  -- two rows that were accepted, of wedges or of stacks
  pub two_rows : (n : Vector) (t u : ℤ) (i j : Inputs) → OnSlope n t i → OnSlope n u j → Together i j → (a b : AcceptedPick) → RowOf i (Accepted a) → RowOf j (Accepted b) → Same a b

pub record TwoCalls : Type 0 where
  -- for every input: what the two in a row answer keeps the promise of a pick
  pub wedge_promise : (wedge : Wedge) (p : Vector) (frame reach : ℤ) (r : Pick) → WedgeRow wedge p frame reach r → WedgePromise wedge p frame reach r
  pub stack_promise : (stack : Stack) (bytes : List ℕ) (p : Vector) (frame reach : ℤ) (r : Pick) → StackRow stack bytes p frame reach r → StackPromise stack bytes p frame reach r
  -- as document 02 reads demand 3, two rows being compared in one frame; and as document 01 words it, for normals with three non-zero components
  pub demand3 : RowDemand Demands.OnSlope Demands.OnWedge (λ i j. i.frame ≡ j.frame) Demands.AcceptedWith
  pub base_demand3 : RowDemand Base.OnSlope Base.OnWedge (λ i j. Unit {0}) Base.AcceptedWith

-- ---- not empty: the check hands back a ready start, and the walk from it answers the normal, of W1, W8, W6 and a stack; or 8, of W7; and the check itself is 8 where an axis leaves the box
abbrev pub check_at : Inputs → Check
check_at i = check_of i.solid i.bytes i.start i.frame i.reach

abbrev pub walk_at : Inputs → ReadyStart → Pick
walk_at i d = walk_of i.solid i.bytes d i.frame i.reach

pub record Handing (n : Vector) (t : ℤ) (i : Inputs) (level : Levels) (looks : ℕ) : Type 0 where
  pub on_slope : OnSlope n t i
  pub checked : check_at i ≡ Ready (ready_start i.start (apex_of i) level looks)

-- the walk from that ready start
pub record RowAccepts (n : Vector) (t : ℤ) (i : Inputs) (level : Levels) (handed steps looks : ℕ) : Type 0 where
  pub handing : Handing n t i level handed
  pub answer : AcceptedPick
  pub is : walk_at i (ready_start i.start (apex_of i) level handed) ≡ Accepted answer
  pub is_normal : answer.normal ≡ n
  pub steps_are : answer.steps ≡ steps
  pub looks_are : answer.looks ≡ looks

pub record RowRefuses (n : Vector) (t : ℤ) (i : Inputs) (level : Levels) (handed : ℕ) : Type 0 where
  pub handing : Handing n t i level handed
  pub answer : RefusedPick
  pub is : walk_at i (ready_start i.start (apex_of i) level handed) ≡ Refused answer
  pub is_eight : answer.number ≡ 8

pub record CheckRefuses (n : Vector) (t : ℤ) (i : Inputs) : Type 0 where
  pub on_slope : OnSlope n t i
  pub answer : RefusedPick
  pub is : check_at i ≡ CheckRefused answer
  pub is_eight : answer.number ≡ 8

pub record RowNotEmpty : Type 0 where
  pub W1 : RowAccepts (vector (pos 1) (pos 2) (pos 5)) (pos 808) (line (pos 1) (pos 2) (pos 5) (pos 808) (at 100) (pos 0) (pos 8)) none_level 5 5 116
  pub W8 : RowAccepts (vector (negsuc 0) (pos 2) (pos 5)) (pos 608) (line (negsuc 0) (pos 2) (pos 5) (pos 608) (at 100) (pos 1) (pos 8)) none_level 5 5 116
  pub W6 : RowAccepts (vector (pos 0) (pos 1) (pos 1)) (pos 202) (line (pos 0) (pos 1) (pos 1) (pos 202) (at 100) (pos 0) (pos 8)) (levels true false false) 12 0 20
  pub on_stack : RowAccepts (at 1) (pos 12) (of_stack stair stair_bytes (at 3) (pos 0) (pos 3)) none_level 5 0 23
  pub W7 : RowRefuses (at 1) (pos 3) (line (pos 1) (pos 1) (pos 1) (pos 3) (at 0) (pos 0) (pos 3)) none_level 5
  pub edge : CheckRefuses (vector (pos 0) (pos 1) (pos 1)) (pos 202) (line (pos 0) (pos 1) (pos 1) (pos 202) (vector (pos 0) (pos 100) (pos 100)) (pos 0) (pos 8))
