-- Document 02's 2026-04, "Wanted": on a slope as in demand 3, with q exactly on the plane's first empty level, an accepted quick touch gives the normal and the triangle
-- of an accepted long walk; and what else a touch can answer there. Statements only, over `Demands`. They are proved: `quick-touch : QuickTouch` in `TouchProved`,
-- `touch-not-empty : TouchNotEmpty` in `TouchCases`.
use Rattle.std.specs.Prelude.{◌≡◌, ◌⊎◌, not, List, ℕ, suc, ◌+◌, ◌*◌, ◌-◌, ◌≤◌, T, ℤ, pos, negsuc, ◌-ℤ◌, ◌*ℤ◌, ◌≤ℤ◌, ◌<ℤ◌}
use Rattle.rules.specs.declared.Vector.{Vector}
use Rattle.rules.specs.declared.Wedge.{Wedge}
use Rattle.rules.specs.declared.Stack.{Stack}
use Rattle.rules.specs.declared.Accepted.{Accepted as AcceptedPick}
use Rattle.rules.specs.declared.Refused.{Refused as RefusedPick}
use Rattle.rules.specs.Answers.{Touch, guess}
use Rattle.std.specs.Prelude.{Ok as Accepted, Ok as Guess, Err as TouchRefused}
use Rattle.rules.specs.Vectors.{vector, dot, size}
use Rattle.rules.specs.Solids.{box, in_box}
use Rattle.rules.specs.declared.Axis.{Axis}
use Rattle.rules.specs.Walk.{unit, laid, Probe, corner}
use Rattle.rules.specs.Touch.{nearer, touch_of, WedgeTouchPromise, StackTouchPromise}
use Rattle.rules.specs.Lean.{levels_of}
use Rattle.laws.specs.Tests.{Each}
use Rattle.laws.specs.Parts.{part}
use Rattle.laws.specs.Generators.{Combines, generators}
use Rattle.laws.specs.Next.{earlier}
use Rattle.laws.specs.Corners.{nth}
use Rattle.laws.specs.Answers.{stop_of}
use Rattle.laws.specs.Touches.{NextTouch}
use Rattle.slope.specs.Stair.{stair, stair_bytes}
use Rattle.slope.specs.Demands.{Inputs, signs_of, apex_of, probe_at, pick_at, OnSlope, OnWedge, Same, of_wedge, of_stack, at, line, Refuses}
use Rattle.slope.specs.Ideal.{ideal_of}

abbrev pub touch_at : Inputs → Touch
touch_at i = touch_of i.solid i.bytes i.start i.frame i.reach

-- what the touch is about
abbrev pub near_at : Inputs → Probe
near_at i = nearer (probe_at i)

-- a slope as in demand 3, q on the plane's first empty level: n·q = t
pub record OnLevel (n : Vector) (t : ℤ) (i : Inputs) : Type 0 where
  pub on_slope : OnSlope n t i
  pub first_level : dot n (apex_of i) ≡ t

abbrev pub NoZero : Vector → Type 0
NoZero n = (k : Axis) → part k n ≡ pos 0 → ⊥

-- ---- what it asks of one touch
-- accepted with normal n and the triangle of n's ideal walk, laid in, whose sides generate the plane; the walk's steps, at most w - 3, and six looks for each round
pub record GuessWith (n : Vector) (i : Inputs) (a : AcceptedPick) : Type 0 where
  pub no_zero : NoZero n
  pub is_normal : a.normal ≡ n
  pub is_triangle : a.triangle ≡ laid (signs_of i) (ideal_of (signs_of i) n).0
  pub in_plane : Each (λ g. dot n g ≡ pos 0) (generators (levels_of n) a.triangle)
  pub generated : (v : Vector) → dot n v ≡ pos 0 → Combines (generators (levels_of n) a.triangle) v
  pub steps_are : a.steps ≡ (ideal_of (signs_of i) n).1
  pub few_steps : a.steps ≤ size n - 3
  pub looks_are : a.looks ≡ 5 + 6 * suc a.steps

-- refused with 8, at the way of a pair of the triangle reached, from the apex, that was to be looked at next; it lies outside the box
pub record TouchOutside (n : Vector) (i : Inputs) (r : RefusedPick) : Type 0 where
  pub no_zero : NoZero n
  pub is_eight : r.number ≡ 8
  pub next : NextTouch (near_at i) (stop_of r)
  pub outside : T (not (in_box (box i.solid) r.place))

-- refused with 11, at the corner of the lowest axis along which n has no part
pub record TouchLevel (n : Vector) (i : Inputs) (r : RefusedPick) : Type 0 where
  pub axis : Axis
  pub is_zero : part axis n ≡ pos 0
  pub lowest : (j : Axis) → T (earlier j axis) → part j n ≡ pos 0 → ⊥
  pub is_eleven : r.number ≡ 11
  pub is_place : r.place ≡ corner (near_at i) (unit axis)
  pub steps_are : r.steps ≡ 0
  pub looks_are : r.looks ≡ 2 + nth axis

-- one of the three, nothing else
abbrev pub TouchedAs : Vector → Inputs → Touch → Type 0
TouchedAs n i (Guess g) = GuessWith n i g.answer
TouchedAs n i (TouchRefused r) = TouchOutside n i r ⊎ TouchLevel n i r

-- a wedge whose a, b, c are g times n, with q on its first empty level: g(n·q - 1) < h ≤ g(n·q)
pub record OnWedgeLevel (g : ℤ) (n : Vector) (wedge : Wedge) (p : Vector) (frame reach : ℤ) : Type 0 where
  pub on_wedge : OnWedge g n wedge p frame reach
  pub above : wedge.h ≤ℤ (g *ℤ dot n (apex_of (of_wedge wedge p frame reach)))
  pub first : (g *ℤ (dot n (apex_of (of_wedge wedge p frame reach)) -ℤ pos 1)) <ℤ wedge.h

-- ---- what is wanted
pub record QuickTouch : Type 0 where
  pub one_touch : (n : Vector) (t : ℤ) (i : Inputs) → OnLevel n t i → TouchedAs n i (touch_at i)
  -- 11 exactly where a component is 0
  pub eleven : (n : Vector) (t : ℤ) (i : Inputs) → OnLevel n t i → (k : Axis) → part k n ≡ pos 0 → (r : RefusedPick) × (touch_at i ≡ TouchRefused r) × TouchLevel n i r
  -- every accepted long walk on a slope of n: any solid, start, reach and offset. n has no zero part where a touch is accepted, so it has one frame
  pub as_long_walk : (n : Vector) (t u : ℤ) (i j : Inputs) → OnLevel n t i → OnSlope n u j → (a b : AcceptedPick) → touch_at i ≡ guess a → pick_at j ≡ Accepted b → Same a b
  pub two_touches : (n : Vector) (t u : ℤ) (i j : Inputs) → OnLevel n t i → OnLevel n u j → (a b : AcceptedPick) → touch_at i ≡ guess a → touch_at j ≡ guess b → Same a b
  -- of what the entry points promise
  pub wedge_touch : (g : ℤ) (n : Vector) (wedge : Wedge) (p : Vector) (frame reach : ℤ) → OnWedgeLevel g n wedge p frame reach
      → (r : Touch) → WedgeTouchPromise wedge p frame reach r → TouchedAs n (of_wedge wedge p frame reach) r
  pub stack_touch : (n : Vector) (t : ℤ) (stack : Stack) (bytes : List ℕ) (p : Vector) (frame reach : ℤ) → OnLevel n t (of_stack stack bytes p frame reach)
      → (r : Touch) → StackTouchPromise stack bytes p frame reach r → TouchedAs n (of_stack stack bytes p frame reach) r

-- ---- not empty: what is assumed holds of W1, W8 and a stack, and the guess is the normal; of W7, where the long walk is refused with 8; of W6, where it is 11; and of a touch that is 8
pub record Guesses (n : Vector) (t : ℤ) (i : Inputs) (steps looks : ℕ) : Type 0 where
  pub on_level : OnLevel n t i
  pub answer : AcceptedPick
  pub is : touch_at i ≡ guess answer
  pub is_normal : answer.normal ≡ n
  pub steps_are : answer.steps ≡ steps
  pub looks_are : answer.looks ≡ looks

pub record TouchRefuses (n : Vector) (t : ℤ) (i : Inputs) (number : ℕ) : Type 0 where
  pub on_level : OnLevel n t i
  pub answer : RefusedPick
  pub is : touch_at i ≡ TouchRefused answer
  pub number_is : answer.number ≡ number

-- above the first empty level a guess may be another normal
pub record WrongGuess (n : Vector) (t : ℤ) (i : Inputs) (guessed : Vector) : Type 0 where
  pub on_slope : OnSlope n t i
  pub answer : AcceptedPick
  pub is : touch_at i ≡ guess answer
  pub is_normal : answer.normal ≡ guessed
  pub is_wrong : guessed ≡ n → ⊥

pub record TouchNotEmpty : Type 0 where
  pub W1 : Guesses (vector (pos 1) (pos 2) (pos 5)) (pos 808) (line (pos 1) (pos 2) (pos 5) (pos 808) (at 100) (pos 0) (pos 8)) 5 41
  pub W8 : Guesses (vector (negsuc 0) (pos 2) (pos 5)) (pos 608) (line (negsuc 0) (pos 2) (pos 5) (pos 608) (at 100) (pos 1) (pos 8)) 5 41
  pub on_stack : Guesses (at 1) (pos 12) (of_stack stair stair_bytes (at 3) (pos 0) (pos 3)) 0 11
  pub W7 : Guesses (at 1) (pos 3) (line (pos 1) (pos 1) (pos 1) (pos 3) (at 0) (pos 0) (pos 3)) 0 11
  pub W7LongWalk : Refuses (at 1) (pos 3) (line (pos 1) (pos 1) (pos 1) (pos 3) (at 0) (pos 0) (pos 3))
  pub W6 : TouchRefuses (vector (pos 0) (pos 1) (pos 1)) (pos 202) (line (pos 0) (pos 1) (pos 1) (pos 202) (at 100) (pos 0) (pos 8)) 11
  pub edge : TouchRefuses (vector (pos 1) (pos 2) (pos 5)) (pos 8) (line (pos 1) (pos 2) (pos 5) (pos 8) (at 0) (pos 0) (pos 8)) 8
  -- one level above: 2 2 3 706, and document 01's slip of looking at power 1 only
  pub off_level : WrongGuess (vector (pos 2) (pos 2) (pos 3)) (pos 706) (line (pos 2) (pos 2) (pos 3) (pos 706) (at 100) (pos 0) (pos 7)) (at 1)
  pub power_one_only : WrongGuess (vector (pos 2) (pos 3) (pos 9)) (pos 1413) (line (pos 2) (pos 3) (pos 9) (pos 1413) (at 100) (pos 0) (pos 14)) (vector (pos 1) (pos 1) (pos 4))
