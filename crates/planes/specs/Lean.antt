-- Known lean: on any plane whatever, how far it can lean from the normal of an accepted pick. Statements only.
-- They are proved: `known-lean : KnownLean` in `LeanProved`, `lean-not-empty : LeanNotEmpty` in `LeanCases`.
use Rattle.std.specs.Prelude.{◌≡◌, List, ℕ, ◌+◌, ◌*◌, ◌<◌, ◌≤◌, T, ℤ, pos, negsuc, nat_abs, ◌-ℤ◌, ◌*ℤ◌, ◌≤ℤ◌, ◌<ℤ◌}
use Rattle.std.specs.Int.Signed.{lt_z}
use Rattle.rules.specs.declared.Vector.{Vector}
use Rattle.rules.specs.declared.Wedge.{Wedge}
use Rattle.rules.specs.declared.Stack.{Stack}
use Rattle.rules.specs.declared.Accepted.{Accepted as AcceptedPick}
use Rattle.rules.specs.Answers.{Lean}
use Rattle.std.specs.Prelude.{Ok as Accepted, Ok as Known}
use Rattle.rules.specs.declared.Bound.{Bound}
use Rattle.rules.specs.Vectors.{vector, dot, cross, size}
use Rattle.rules.specs.Solids.{box, in_box, filled}
use Rattle.rules.specs.Pick.{WedgePromise, StackPromise}
use Rattle.rules.specs.Lean.{levels_of, squared, spread, last_power, bound_at, lean_of, LeanPromise}
use Rattle.rules.specs.Firm.{footing}
use Rattle.laws.specs.Tests.{Each}
use Rattle.slope.specs.Demands.{Inputs, signs_of, apex_of, pick_at, of_wedge, of_stack, at, line}
use Rattle.slope.specs.Rows.{RowOf}

-- ---- what is assumed: the filled voxels of the box are exactly those with ν·v < t. Nothing is said of ν's signs, divisor or size
pub record OnPlane (ν : Vector) (t : ℤ) (i : Inputs) : Type 0 where
  pub filled_below : (v : Vector) → T (in_box (box i.solid) v) → filled i.solid i.bytes v ≡ lt_z (dot ν v) t

-- ---- what a bound says: with θ the angle between ν and n, sin²θ = |ν×n|² / (ν·ν n·n) is below part / whole
pub record LeansBelow (b : Bound) (ν n : Vector) : Type 0 where
  pub sine : b.whole * squared (cross ν n) < b.part * (squared ν * squared n)
  -- so cos²θ = (ν·n)² / (ν·ν n·n) is above 1 - part / whole: a wall that reads d along n is of metal of more than d·√(1 - part / whole)
  pub wall : b.whole * (squared ν * squared n) < b.whole * (nat_abs (dot ν n) * nat_abs (dot ν n)) + b.part * (squared ν * squared n)

-- ---- what holds of an accepted pick
-- L, the last power, and S, the spread
abbrev pub last_of : Inputs → ℕ
last_of i = last_power (nat_abs i.reach)

abbrev pub spread_of : AcceptedPick → ℕ
spread_of a = spread (levels_of a.normal) a.triangle

-- e, how high the apex is above the plane
abbrev pub height : Vector → ℤ → Inputs → ℤ
height ν t i = dot ν (apex_of i) -ℤ t

-- the bound at the last power is what is known, and ν leans below it, less than a right angle
pub record Leans (ν : Vector) (t : ℤ) (i : Inputs) (a : AcceptedPick) : Type 0 where
  pub is_known : lean_of (Accepted a) i.reach ≡ Known (bound_at (last_of i) a)
  pub below : LeansBelow (bound_at (last_of i) a) ν a.normal
  pub upward : pos 0 <ℤ dot ν a.normal
  -- without the division: L²·|ν×n|² is at most S·e², so less than 3·S·(ν·ν)
  pub not_below : pos 0 ≤ℤ height ν t i
  pub low : height ν t i <ℤ dot ν (signs_of i)
  pub flat : Each (λ u. (pos (last_of i) *ℤ dot ν u) ≤ℤ height ν t i) (footing (signs_of i) a)
  pub close : pos (last_of i * last_of i * squared (cross ν a.normal)) ≤ℤ (pos (spread_of a) *ℤ (height ν t i *ℤ height ν t i))
  pub lean : last_of i * last_of i * squared (cross ν a.normal) < 3 * spread_of a * squared ν

-- the wedge's own plane
abbrev pub slope_of : Wedge → Vector
slope_of wedge = vector wedge.a wedge.b wedge.c

pub record KnownLean : Type 0 where
  pub one_pick : (ν : Vector) (t : ℤ) (i : Inputs) → OnPlane ν t i → (a : AcceptedPick) → pick_at i ≡ Accepted a → Leans ν t i a
  -- the check and the walk in a row, from what their entry points promise
  pub one_row : (ν : Vector) (t : ℤ) (i : Inputs) → OnPlane ν t i → (a : AcceptedPick) → RowOf i (Accepted a) → Leans ν t i a
  -- every wedge is a plane, so both hold of it; and of what the entry points promise
  pub wedge_plane : (wedge : Wedge) (p : Vector) (frame reach : ℤ) → OnPlane (slope_of wedge) wedge.h (of_wedge wedge p frame reach)
  pub wedge_pick : (wedge : Wedge) (p : Vector) (frame reach : ℤ) (a : AcceptedPick) → WedgePromise wedge p frame reach (Accepted a) → Leans (slope_of wedge) wedge.h (of_wedge wedge p frame reach) a
  pub stack_pick : (ν : Vector) (t : ℤ) (stack : Stack) (bytes : List ℕ) (p : Vector) (frame reach : ℤ) → OnPlane ν t (of_stack stack bytes p frame reach)
      → (a : AcceptedPick) → StackPromise stack bytes p frame reach (Accepted a) → Leans ν t (of_stack stack bytes p frame reach) a
  -- and what is told of the answer is that bound
  pub told : (ν : Vector) (t : ℤ) (i : Inputs) → OnPlane ν t i → (a : AcceptedPick) → pick_at i ≡ Accepted a → (r : Lean) → LeanPromise (Accepted a) i.reach r
      → (b : Bound) × (r ≡ Known b) × LeansBelow b ν a.normal

-- ---- not empty: a plane far beyond the reach (w = 18, R = 8) is accepted as 1 1 1, one against the frame as 0 1 1; on others nine tenths of the bound are reached, eight with a level axis or two;
-- and on W1 nothing leans
pub record AcceptsOn (ν : Vector) (t : ℤ) (i : Inputs) (n : Vector) (tenths : ℕ) : Type 0 where
  pub on_plane : OnPlane ν t i
  pub answer : AcceptedPick
  pub is : pick_at i ≡ Accepted answer
  pub is_normal : answer.normal ≡ n
  pub reached : tenths * ((bound_at (last_of i) answer).part * (squared ν * squared n)) ≤ 10 * ((bound_at (last_of i) answer).whole * squared (cross ν n))

-- the plane of a line of the wedge program: a b c h, from 100 100 100 in frame 0, with the reach R
abbrev pub AcceptsLine : ℤ → ℤ → ℤ → ℤ → ℤ → Vector → ℕ → Type 0
AcceptsLine a b c h reach = AcceptsOn (vector a b c) h (line a b c h (at 100) (pos 0) reach)

pub record LeanNotEmpty : Type 0 where
  pub beyond : AcceptsLine (pos 5) (pos 6) (pos 7) (pos 1801) (pos 8) (at 1) 0
  pub is_beyond : 8 < size (vector (pos 5) (pos 6) (pos 7))
  pub against : AcceptsLine (negsuc 0) (pos 20) (pos 20) (pos 3920) (pos 4) (vector (pos 0) (pos 1) (pos 1)) 0
  pub sharp : AcceptsLine (pos 20) (pos 31) (pos 22) (pos 7301) (pos 5) (vector (pos 1) (pos 2) (pos 2)) 9
  pub sharp_with_one_level : AcceptsLine (pos 18) (pos 35) (pos 17) (pos 7002) (pos 4) (vector (pos 1) (pos 1) (pos 0)) 8
  pub sharp_with_two_level : AcceptsLine (pos 15) (pos 7) (pos 7) (pos 2901) (pos 3) (vector (pos 1) (pos 0) (pos 0)) 8
  pub own_slope : AcceptsLine (pos 1) (pos 2) (pos 5) (pos 808) (pos 8) (vector (pos 1) (pos 2) (pos 5)) 0
  pub no_lean : squared (cross (vector (pos 1) (pos 2) (pos 5)) own_slope.answer.normal) ≡ 0
