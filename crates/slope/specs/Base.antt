-- Demand 3 as document 01 words it, for normals with three non-zero components: what the base promised, word for word.
-- It is a corollary of `Demands`: `base-demand-3 : Demand3` in `Corollary`, `base-not-empty : NotEmpty` in `Cases`.
use Rattle.std.specs.Prelude.{◌≡◌, List, ℕ, ◌+◌, ◌*◌, ◌-◌, ◌≤◌, T, ℤ, pos, negsuc, ◌≤ℤ◌}
use Rattle.std.specs.Int.Signed.{lt_z}
use Rattle.rules.specs.declared.Vector.{Vector}
use Rattle.rules.specs.declared.Wedge.{Wedge}
use Rattle.rules.specs.declared.Stack.{Stack}
use Rattle.rules.specs.declared.Triangle.{Triangle}
use Rattle.rules.specs.declared.Pair.{Pair}
use Rattle.rules.specs.declared.Pair.TheVariants.{P01, P02}
use Rattle.rules.specs.declared.Accepted.{Accepted as AcceptedPick}
use Rattle.rules.specs.declared.Refused.{Refused as RefusedPick}
use Rattle.rules.specs.Answers.{Pick}
use Rattle.std.specs.Prelude.{Ok as Accepted, Err as Refused}
use Rattle.rules.specs.Vectors.{vector, ◌⊕◌, scale, dot, lay, size}
use Rattle.rules.specs.Solids.{between, permitted, box, in_box, filled}
use Rattle.rules.specs.Walk.{way}
use Rattle.rules.specs.Pick.{WedgePromise, StackPromise}
use Rattle.laws.specs.Parts.{Positive}
use Rattle.slope.specs.Stair.{stair, stair_bytes}
use Rattle.slope.specs.Demands.{Inputs, signs_of, powers_of, pick_at, Touched, RefusedOutside, OneOf, Same, of_wedge, of_stack, at, line}

-- ---- reach, frame and solid are permitted
pub record Permitted (i : Inputs) : Type 0 where
  pub permitted_reach : T (between (pos 3) i.reach (pos 256))
  pub permitted_frame : T (between (pos 0) i.frame (pos 7))
  pub permitted_solid : T (permitted i.solid i.bytes)

-- n has three non-zero whole components with the frame's signs (in the frame each is at least 1) and no common divisor;
-- w, the sum of their sizes, is at most the reach
pub record Direction (n : Vector) (i : Inputs) : Type 0 where
  pub signed : Positive (lay (signs_of i) n)
  pub no_common_divisor : (d : ℤ) (u : Vector) → pos 1 ≤ℤ d → n ≡ scale d u → d ≡ pos 1
  pub within_reach : pos (size n) ≤ℤ i.reach

-- what the demand assumes. The filled voxels of the box are exactly those with n·v < t
pub record OnSlope (n : Vector) (t : ℤ) (i : Inputs) : Type 0 where
  pub permitted : Permitted i
  pub direction : Direction n i
  pub filled_below : (v : Vector) → T (in_box (box i.solid) v) → filled i.solid i.bytes v ≡ lt_z (dot n v) t
  pub touched : Touched i

-- ---- what it asks of one pick
-- v is a whole combination of the triangle's sides
pub record Combination (m : Triangle) (v : Vector) : Type 0 where
  pub c1 : ℤ
  pub c2 : ℤ
  pub is : v ≡ scale c1 (way m P01) ⊕ scale c2 (way m P02)

-- accepted with normal n, after at most w - 3 steps and 2 + K(6w - 9) looks (w is at least 3);
-- the sides lie in the plane, and every whole vector of the plane is a whole combination of them
pub record AcceptedWith (n : Vector) (i : Inputs) (a : AcceptedPick) : Type 0 where
  pub is_normal : a.normal ≡ n
  pub few_steps : a.steps ≤ size n - 3
  pub few_looks : a.looks ≤ 2 + powers_of i * (6 * size n - 9)
  pub sides_in_plane : (side : Pair) → dot n (way a.triangle side) ≡ pos 0
  pub sides_generate : (v : Vector) → dot n v ≡ pos 0 → Combination a.triangle v

-- or refused with 8, at the voxel that was to be looked at next, as in `Demands`; nothing else
abbrev pub Demanded : Vector → Inputs → Pick → Type 0
Demanded n i = OneOf (AcceptedWith n i) (RefusedOutside i)

-- a wedge whose a, b, c are g times n; its h is any that is permitted
pub record OnWedge (g : ℤ) (n : Vector) (wedge : Wedge) (p : Vector) (frame reach : ℤ) : Type 0 where
  pub permitted : Permitted (of_wedge wedge p frame reach)
  pub direction : Direction n (of_wedge wedge p frame reach)
  pub at_least_once : pos 1 ≤ℤ g
  pub multiple : vector wedge.a wedge.b wedge.c ≡ scale g n
  pub touched : Touched (of_wedge wedge p frame reach)

-- ---- the demand
pub record Demand3 : Type 0 where
  pub one_pick : (n : Vector) (t : ℤ) (i : Inputs) → OnSlope n t i → Demanded n i (pick_at i)
  -- any two solids, starts and reaches; the offsets may differ too
  pub two_picks : (n : Vector) (t u : ℤ) (i j : Inputs) → OnSlope n t i → OnSlope n u j → (a b : AcceptedPick) → pick_at i ≡ Accepted a → pick_at j ≡ Accepted b → Same a b
  -- an inspector's test wedge is a slope, common divisor or not, so both hold of it; and of what the entry points promise
  pub wedge_slope : (g : ℤ) (n : Vector) (wedge : Wedge) (p : Vector) (frame reach : ℤ) → OnWedge g n wedge p frame reach → (t : ℤ) × OnSlope n t (of_wedge wedge p frame reach)
  pub wedge_pick : (g : ℤ) (n : Vector) (wedge : Wedge) (p : Vector) (frame reach : ℤ) → OnWedge g n wedge p frame reach
      → (r : Pick) → WedgePromise wedge p frame reach r → Demanded n (of_wedge wedge p frame reach) r
  pub stack_pick : (n : Vector) (t : ℤ) (stack : Stack) (bytes : List ℕ) (p : Vector) (frame reach : ℤ) → OnSlope n t (of_stack stack bytes p frame reach)
      → (r : Pick) → StackPromise stack bytes p frame reach r → Demanded n (of_stack stack bytes p frame reach) r

-- ---- not empty: what is assumed holds of W1, W2, W8, of a wedge with a common divisor and of a stack, and the answer is the normal;
-- it holds of W7, and the answer is 8; and the bound on the looks is reached
pub record Accepts (n : Vector) (t : ℤ) (i : Inputs) (steps looks : ℕ) : Type 0 where
  pub on_slope : OnSlope n t i
  pub answer : AcceptedPick
  pub is : pick_at i ≡ Accepted answer
  pub is_normal : answer.normal ≡ n
  pub steps_are : answer.steps ≡ steps
  pub looks_are : answer.looks ≡ looks

pub record Refuses (n : Vector) (t : ℤ) (i : Inputs) : Type 0 where
  pub on_slope : OnSlope n t i
  pub answer : RefusedPick
  pub is : pick_at i ≡ Refused answer
  pub is_eight : answer.number ≡ 8

pub record NotEmpty : Type 0 where
  pub W1 : Accepts (vector (pos 1) (pos 2) (pos 5)) (pos 808) (line (pos 1) (pos 2) (pos 5) (pos 808) (at 100) (pos 0) (pos 8)) 5 116
  pub W2 : Accepts (vector (pos 1) (pos 2) (pos 5)) (pos 801) (line (pos 1) (pos 2) (pos 5) (pos 801) (at 100) (pos 0) (pos 8)) 5 144
  pub W8 : Accepts (vector (negsuc 0) (pos 2) (pos 5)) (pos 608) (line (negsuc 0) (pos 2) (pos 5) (pos 608) (at 100) (pos 1) (pos 8)) 5 116
  -- 1615/2 rounded up is 808, so this is W1's slope
  pub twice_w1 : OnWedge (pos 2) (vector (pos 1) (pos 2) (pos 5)) (record { a = pos 2; b = pos 4; c = pos 10; h = pos 1615 }) (at 100) (pos 0) (pos 8)
  pub twice_w1_accepts : Accepts (vector (pos 1) (pos 2) (pos 5)) (pos 808) (line (pos 2) (pos 4) (pos 10) (pos 1615) (at 100) (pos 0) (pos 8)) 5 116
  pub on_stack : Accepts (at 1) (pos 12) (of_stack stair stair_bytes (at 3) (pos 0) (pos 3)) 0 23
  pub W7 : Refuses (at 1) (pos 3) (line (pos 1) (pos 1) (pos 1) (pos 3) (at 0) (pos 0) (pos 3))
  -- all the looks allowed: w = 3 and K = 3, so 2 + K(6w - 9) = 29
  pub all_looks : Accepts (at 1) (pos 301) (line (pos 1) (pos 1) (pos 1) (pos 301) (at 100) (pos 0) (pos 3)) 0 29
  pub allowed : 2 + powers_of (line (pos 1) (pos 1) (pos 1) (pos 301) (at 100) (pos 0) (pos 3)) * (6 * size (at 1) - 9) ≡ 29
