-- What is wanted of quick touches (2026-04) as a host has it: from the promises of `ulgenzhir_touch_wedge` and `ulgenzhir_touch_stack`, with the flattened answer.
-- Statements only, over the words of `slope/specs/Touches`. They are proved in `TouchProved`.
use Rattle.std.specs.Prelude.{◌≡◌, ◌⊎◌, List, ℕ, ◌≤◌, ℤ}
use Rattle.rules.specs.declared.Vector.{Vector}
use Rattle.rules.specs.declared.Wedge.{Wedge}
use Rattle.rules.specs.declared.Stack.{Stack}
use Rattle.rules.specs.Vectors.{origin}
use Rattle.slope.specs.Demands.{Inputs, OnSlope, of_wedge, of_stack}
use Rattle.slope.specs.Touches.{OnLevel, OnWedgeLevel, GuessWith, TouchOutside, TouchLevel}
use Rattle.flat.specs.declared.FlatPick.{FlatPick}
use Rattle.flat.specs.declared.FlatTouch.{FlatTouch}
use Rattle.panel.specs.Promises.{TouchedWedge, TouchedStack}
use Rattle.host.specs.Demands.{accepted_of, refused_of, FlatSame, Called}

-- a flat touch without its mark
abbrev pub without_guess : FlatTouch → FlatPick
without_guess r = record { number = r.number; place = r.place; steps = r.steps; looks = r.looks; normal = r.normal; m0 = r.m0; m1 = r.m1; m2 = r.m2; apex = r.apex }

-- number 0, marked a guess, and what is wanted of an accepted touch; or 8 or 11, with no mark, normal, triangle or apex
pub record FlatGuess (n : Vector) (i : Inputs) (r : FlatTouch) : Type 0 where
  pub is_accepted : r.number ≡ 0
  pub is_guess : r.guess ≡ 1
  pub no_place : r.place ≡ origin
  pub wanted : GuessWith n i (accepted_of (without_guess r))

pub record FlatNoGuess (n : Vector) (i : Inputs) (r : FlatTouch) : Type 0 where
  pub wanted : TouchOutside n i (refused_of (without_guess r)) ⊎ TouchLevel n i (refused_of (without_guess r))
  pub no_guess : r.guess ≡ 0
  pub no_normal : r.normal ≡ origin
  pub no_triangle : (r.m0 ≡ origin) × (r.m1 ≡ origin) × (r.m2 ≡ origin)
  pub no_apex : r.apex ≡ origin

abbrev pub FlatTouched : Vector → Inputs → FlatTouch → Type 0
FlatTouched n i r = FlatGuess n i r ⊎ FlatNoGuess n i r

-- the promise of a host's touch with these inputs allows r
pub data TouchCalled (i : Inputs) (r : FlatTouch) : Type 0 where
  wedge_touched : (wedge : Wedge) (p : Vector) (frame reach : ℤ) → i ≡ of_wedge wedge p frame reach → TouchedWedge wedge p frame reach r → TouchCalled i r
  stack_touched : (stack : Stack) (bytes : List ℕ) (p : Vector) (frame reach : ℤ) → i ≡ of_stack stack bytes p frame reach → TouchedStack stack bytes p frame reach r → TouchCalled i r

-- guess is 1 when number is 0, else 0
abbrev pub Marked : FlatTouch → Type 0
Marked r = ((r.number ≡ 0) × (r.guess ≡ 1)) ⊎ ((1 ≤ r.number) × (r.guess ≡ 0))

pub record HostQuickTouch : Type 0 where
  -- every touch
  pub marked : (i : Inputs) (r : FlatTouch) → TouchCalled i r → Marked r
  pub wedge_touch : (g : ℤ) (n : Vector) (wedge : Wedge) (p : Vector) (frame reach : ℤ) → OnWedgeLevel g n wedge p frame reach
      → (r : FlatTouch) → TouchedWedge wedge p frame reach r → FlatTouched n (of_wedge wedge p frame reach) r
  pub stack_touch : (n : Vector) (t : ℤ) (stack : Stack) (bytes : List ℕ) (p : Vector) (frame reach : ℤ) → OnLevel n t (of_stack stack bytes p frame reach)
      → (r : FlatTouch) → TouchedStack stack bytes p frame reach r → FlatTouched n (of_stack stack bytes p frame reach) r
  -- an accepted touch and an accepted pick, of wedges or of stacks
  pub as_long_walk : (n : Vector) (t u : ℤ) (i j : Inputs) → OnLevel n t i → OnSlope n u j
      → (a : FlatTouch) (b : FlatPick) → TouchCalled i a → Called j b → a.number ≡ 0 → b.number ≡ 0 → FlatSame (without_guess a) b
  pub two_touches : (n : Vector) (t u : ℤ) (i j : Inputs) → OnLevel n t i → OnLevel n u j
      → (a b : FlatTouch) → TouchCalled i a → TouchCalled j b → a.number ≡ 0 → b.number ≡ 0 → FlatSame (without_guess a) (without_guess b)
