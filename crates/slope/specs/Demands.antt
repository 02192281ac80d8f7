-- Demand 3 as document 02's 2026-01 reads it: on every slope, level along an axis or two or not, from every start. Statements only, in the demand's order and words.
-- They are proved: `demand-3 : Demand3` in `Proved`, `not-empty : NotEmpty` in `Cases`. Document 01's own reading is beside it, in `Base`.
use Rattle.std.specs.Prelude.{◌≡◌, not, List, [], ℕ, ◌+◌, ◌*◌, ◌-◌, ◌≤◌, T, length, ℤ, pos, negsuc, nat_abs, ◌≤ℤ◌}
use Rattle.std.specs.Int.Signed.{lt_z}
use Rattle.rules.specs.declared.Vector.{Vector}
use Rattle.rules.specs.declared.Wedge.{Wedge}
use Rattle.rules.specs.declared.Stack.{Stack}
use Rattle.rules.specs.declared.Solid.{Solid}
use Rattle.rules.specs.declared.Solid.TheVariants.{Wedge as IsWedge, Stack as IsStack}
use Rattle.rules.specs.declared.Look.TheVariants.{Filled, Empty}
use Rattle.rules.specs.declared.Accepted.{Accepted as AcceptedPick}
use Rattle.rules.specs.declared.Refused.{Refused as RefusedPick}
use Rattle.rules.specs.Answers.{Pick}
use Rattle.std.specs.Prelude.{Ok as Accepted, Err as Refused}
use Rattle.rules.specs.Vectors.{vector, ◌⊕◌, scale, dot, lay, size, origin}
use Rattle.rules.specs.Solids.{between, permitted, box, in_box, filled, look}
use Rattle.rules.specs.declared.Axis.{Axis}
use Rattle.rules.specs.Walk.{signs, powers, Probe, unit, vector_of, level, remaining}
use Rattle.rules.specs.Pick.{probe, pick_of, WedgePromise, StackPromise}
use Rattle.rules.specs.Lean.{levels_of}
use Rattle.laws.specs.Tests.{Each}
use Rattle.laws.specs.Parts.{NonNegative}
use Rattle.laws.specs.Generators.{Combines, generators}
use Rattle.laws.specs.Next.{NextLook}
use Rattle.laws.specs.Answers.{stop_of}
use Rattle.slope.specs.Stair.{stair, stair_bytes}

-- ---- document 01, "Inputs": a solid (with its lent bytes), a start p, a frame number, a reach R
pub record Inputs : Type 0 where
  pub solid : Solid
  pub bytes : List ℕ
  pub start : Vector
  pub frame : ℤ
  pub reach : ℤ

abbrev pub signs_of : Inputs → Vector
signs_of i = signs (nat_abs i.frame)

abbrev pub apex_of : Inputs → Vector
apex_of i = i.start ⊕ signs_of i

-- what the walk is about
abbrev pub probe_at : Inputs → Probe
probe_at i = probe (look i.solid i.bytes) i.start i.frame i.reach

-- K, the number of powers
abbrev pub powers_of : Inputs → ℕ
powers_of i = length (powers (nat_abs i.reach))

abbrev pub pick_at : Inputs → Pick
pick_at i = pick_of i.solid i.bytes i.start i.frame i.reach

-- ---- reach, frame and solid are permitted
pub record Permitted (i : Inputs) : Type 0 where
  pub permitted_reach : T (between (pos 1) i.reach (pos 256))
  pub permitted_frame : T (between (pos 0) i.frame (pos 7))
  pub permitted_solid : T (permitted i.solid i.bytes)

-- r, the number of remaining axes: those along which n has a part
abbrev pub remaining_of : Vector → ℕ
remaining_of n = length (remaining (levels_of n))

-- n has no component against the frame (in the frame none is below 0), is not all zero and has no common divisor;
-- w, the sum of their sizes, is at most the reach
pub record Direction (n : Vector) (i : Inputs) : Type 0 where
  pub signed : NonNegative (lay (signs_of i) n)
  pub not_all_zero : n ≡ origin → ⊥
  pub no_common_divisor : (d : ℤ) (u : Vector) → pos 1 ≤ℤ d → n ≡ scale d u → d ≡ pos 1
  pub within_reach : pos (size n) ≤ℤ i.reach

-- the start is filled, the apex is in the box and empty
pub record Touched (i : Inputs) : Type 0 where
  pub start_filled : look i.solid i.bytes i.start ≡ Filled
  pub apex_empty : look i.solid i.bytes (apex_of i) ≡ Empty

-- what the demand assumes. The filled voxels of the box are exactly those with n·v < t
pub record OnSlope (n : Vector) (t : ℤ) (i : Inputs) : Type 0 where
  pub permitted : Permitted i
  pub direction : Direction n i
  pub filled_below : (v : Vector) → T (in_box (box i.solid) v) → filled i.solid i.bytes v ≡ lt_z (dot n v) t
  pub touched : Touched i

-- ---- what it asks of one pick
-- accepted with normal n, after at most w less the remaining axes in steps and 2 + K(6w + 6) looks; the vectors of level axes stay the unit vectors, laid in;
-- the generating set, the level vectors and the sides between the other corners, lies in the plane, and every whole vector of the plane is a whole combination of it
pub record AcceptedWith (n : Vector) (i : Inputs) (a : AcceptedPick) : Type 0 where
  pub is_normal : a.normal ≡ n
  pub few_steps : a.steps ≤ size n - remaining_of n
  pub few_looks : a.looks ≤ 2 + powers_of i * (6 * size n + 6)
  -- at most 6 - r + r(r - 1)(w + 1 - r) for each power: 5, 2w + 2 and 6w - 9 for one, two and three remaining axes. Each is reached, with w = r: `NotEmpty`
  pub fewest_looks : a.looks ≤ 2 + powers_of i * (6 - remaining_of n + remaining_of n * (remaining_of n - 1) * (size n + 1 - remaining_of n))
  pub stays : (k : Axis) → T (level (levels_of n) k) → vector_of a.triangle k ≡ lay (signs_of i) (unit k)
  pub in_plane : Each (λ g. dot n g ≡ pos 0) (generators (levels_of n) a.triangle)
  pub generated : (v : Vector) → dot n v ≡ pos 0 → Combines (generators (levels_of n) a.triangle) v

-- refused with 8, at the voxel that was to be looked at next: a power times minus a unit vector, a unit vector (an opposite) or a way of the triangle reached, from the apex; it lies outside the box
pub record RefusedOutside (i : Inputs) (r : RefusedPick) : Type 0 where
  pub is_eight : r.number ≡ 8
  pub next : NextLook (probe_at i) (stop_of r)
  pub outside : T (not (in_box (box i.solid) r.place))

-- one of the two, nothing else
abbrev pub OneOf : (AcceptedPick → Type 0) → (RefusedPick → Type 0) → Pick → Type 0
OneOf A F (Accepted a) = A a
OneOf A F (Refused r) = F r

abbrev pub Demanded : Vector → Inputs → Pick → Type 0
Demanded n i = OneOf (AcceptedWith n i) (RefusedOutside i)

-- ---- what it asks of two accepted picks
pub record Same (a b : AcceptedPick) : Type 0 where
  pub normals : a.normal ≡ b.normal
  pub triangles : a.triangle ≡ b.triangle
  pub steps : a.steps ≡ b.steps

-- ---- the two entry points
abbrev pub of_wedge : Wedge → Vector → ℤ → ℤ → Inputs
of_wedge wedge p frame reach = record { solid = IsWedge wedge; bytes = []; start = p; frame = frame; reach = reach }

abbrev pub of_stack : Stack → List ℕ → Vector → ℤ → ℤ → Inputs
of_stack stack bytes p frame reach = record { solid = IsStack stack; bytes = bytes; start = p; frame = frame; reach = reach }

-- a wedge whose a, b, c are g times n; its h is any that is permitted
pub record OnWedge (g : ℤ) (n : Vector) (wedge : Wedge) (p : Vector) (frame reach : ℤ) : Type 0 where
  pub permitted : Permitted (of_wedge wedge p frame reach)
  pub direction : Direction n (of_wedge wedge p frame reach)
  pub at_least_once : pos 1 ≤ℤ g
  pub multiple : vector wedge.a wedge.b wedge.c ≡ scale g n
  pub touched : Touched (of_wedge wedge p frame reach)

-- ---- the demand
pub record Demand3 : Type 0 where
  pub one_pick : (n : Vector) (t : ℤ) (i : Inputs) → OnSlope n t i → Demanded n i (pick_at i)
  -- any two solids, starts and reaches, in one frame; the offsets may differ too
  pub two_picks : (n : Vector) (t u : ℤ) (i j : Inputs) → OnSlope n t i → OnSlope n u j → i.frame ≡ j.frame → (a b : AcceptedPick) → pick_at i ≡ Accepted a → pick_at j ≡ Accepted b → Same a b
  -- an inspector's test wedge is a slope, common divisor or not, so both hold of it; and of what the entry points promise
  pub wedge_slope : (g : ℤ) (n : Vector) (wedge : Wedge) (p : Vector) (frame reach : ℤ) → OnWedge g n wedge p frame reach → (t : ℤ) × OnSlope n t (of_wedge wedge p frame reach)
  pub wedge_pick : (g : ℤ) (n : Vector) (wedge : Wedge) (p : Vector) (frame reach : ℤ) → OnWedge g n wedge p frame reach
      → (r : Pick) → WedgePromise wedge p frame reach r → Demanded n (of_wedge wedge p frame reach) r
  pub stack_pick : (n : Vector) (t : ℤ) (stack : Stack) (bytes : List ℕ) (p : Vector) (frame reach : ℤ) → OnSlope n t (of_stack stack bytes p frame reach)
      → (r : Pick) → StackPromise stack bytes p frame reach r → Demanded n (of_stack stack bytes p frame reach) r

-- ---- not empty: what is assumed holds of W1, W2, W6, W8, of a wedge with a common divisor and of a stack, and the answer is the normal;
-- it holds of W7, and the answer is 8; the bound on the looks is reached for each number of remaining axes; and two frames may have two triangles
abbrev pub at : ℕ → Vector
at k = vector (pos k) (pos k) (pos k)

-- a line of the wedge program: a b c h, p, frame, R
abbrev pub line : ℤ → ℤ → ℤ → ℤ → Vector → ℤ → ℤ → Inputs
line a b c h p frame reach = of_wedge (record { a = a; b = b; c = c; h = h }) p frame reach

pub record Accepts (n : Vector) (t : ℤ) (i : Inputs) (steps looks : ℕ) : Type 0 where
  pub on_slope : OnSlope n t i
  pub answer : AcceptedPick
  pub is : pick_at i ≡ Accepted answer
  pub is_normal : answer.normal ≡ n
  pub steps_are : answer.steps ≡ steps
  pub looks_are : answer.looks ≡ looks

pub record Refuses (n : Vector) (t : ℤ) (i : Inputs) : Type 0 where
  pub on_slope : OnSlope n t i
  pub answer : RefusedPick
  pub is : pick_at i ≡ Refused answer
  pub is_eight : answer.number ≡ 8

-- the most looks on the slope of n, with the reach R
abbrev pub fewest_of : Vector → ℕ → ℕ
fewest_of n R = 2 + length (powers R) * (6 - remaining_of n + remaining_of n * (remaining_of n - 1) * (size n + 1 - remaining_of n))

pub record NotEmpty : Type 0 where
  pub W1 : Accepts (vector (pos 1) (pos 2) (pos 5)) (pos 808) (line (pos 1) (pos 2) (pos 5) (pos 808) (at 100) (pos 0) (pos 8)) 5 116
  pub W2 : Accepts (vector (pos 1) (pos 2) (pos 5)) (pos 801) (line (pos 1) (pos 2) (pos 5) (pos 801) (at 100) (pos 0) (pos 8)) 5 144
  pub W8 : Accepts (vector (negsuc 0) (pos 2) (pos 5)) (pos 608) (line (negsuc 0) (pos 2) (pos 5) (pos 608) (at 100) (pos 1) (pos 8)) 5 116
  -- 1615/2 rounded up is 808, so this is W1's slope
  pub twice_w1 : OnWedge (pos 2) (vector (pos 1) (pos 2) (pos 5)) (record { a = pos 2; b = pos 4; c = pos 10; h = pos 1615 }) (at 100) (pos 0) (pos 8)
  pub twice_w1_accepts : Accepts (vector (pos 1) (pos 2) (pos 5)) (pos 808) (line (pos 2) (pos 4) (pos 10) (pos 1615) (at 100) (pos 0) (pos 8)) 5 116
  pub on_stack : Accepts (at 1) (pos 12) (of_stack stair stair_bytes (at 3) (pos 0) (pos 3)) 0 23
  pub W7 : Refuses (at 1) (pos 3) (line (pos 1) (pos 1) (pos 1) (pos 3) (at 0) (pos 0) (pos 3))
  -- all the looks allowed, with three remaining axes, two, and one at reach 1
  pub all_three : Accepts (at 1) (pos 301) (line (pos 1) (pos 1) (pos 1) (pos 301) (at 100) (pos 0) (pos 3)) 0 (fewest_of (at 1) 3)
  pub all_two : Accepts (vector (pos 0) (pos 1) (pos 1)) (pos 201) (line (pos 0) (pos 1) (pos 1) (pos 201) (at 100) (pos 0) (pos 2)) 0 (fewest_of (vector (pos 0) (pos 1) (pos 1)) 2)
  pub all_one : Accepts (vector (pos 0) (pos 0) (pos 1)) (pos 101) (line (pos 0) (pos 0) (pos 1) (pos 101) (at 100) (pos 0) (pos 1)) 0 (fewest_of (vector (pos 0) (pos 0) (pos 1)) 1)
  pub allowed : (fewest_of (at 1) 3 ≡ 29) × (fewest_of (vector (pos 0) (pos 1) (pos 1)) 2 ≡ 14) × (fewest_of (vector (pos 0) (pos 0) (pos 1)) 1 ≡ 7)
  -- W6, and W6 in frame 1: a level vector has its frame's sign
  pub W6 : Accepts (vector (pos 0) (pos 1) (pos 1)) (pos 202) (line (pos 0) (pos 1) (pos 1) (pos 202) (at 100) (pos 0) (pos 8)) 0 20
  pub W6Turned : Accepts (vector (pos 0) (pos 1) (pos 1)) (pos 202) (line (pos 0) (pos 1) (pos 1) (pos 202) (at 100) (pos 1) (pos 8)) 0 20
  pub triangles_differ : W6.answer.triangle ≡ W6Turned.answer.triangle → ⊥
