-- Known lean: how far the face can lean from an accepted normal, told by the answer itself; the answer of the function that tells it and its promise, for every input.
-- No document asks for it: docs/DECISIONS.md. What it means is the theorem `known-lean`. These are definitions: nothing here is proved.
use Rattle.std.specs.Prelude.{◌≡◌, Bool, true, false, not, ◌&&◌, List, [], ◌∷◌, ℕ, zero, suc, ◌+◌, ◌*◌, max, leb, ℤ, pos, negsuc, nat_abs, length}
use Rattle.rules.specs.declared.Vector.{Vector}
use Rattle.rules.specs.declared.Levels.{Levels}
use Rattle.rules.specs.declared.Triangle.{Triangle}
use Rattle.rules.specs.declared.Pair.{Pair}
use Rattle.rules.specs.declared.Pair.TheVariants.{P01, P02, P12}
use Rattle.rules.specs.declared.Accepted.{Accepted as AcceptedPick}
use Rattle.rules.specs.Answers.{Pick, Lean, refused_input}
use Rattle.std.specs.Prelude.{Ok as Accepted, Err as Refused, Ok as Known}
use Rattle.rules.specs.declared.Bound.{Bound}
use Rattle.rules.specs.Vectors.{dot}
use Rattle.rules.specs.Solids.{between}
use Rattle.rules.specs.Walk.{powers, all_axes, way, levels, level, all_level, only, takes_part}

-- an axis is level exactly if the normal's part along it is 0
abbrev pub is_zero : ℤ → Bool
is_zero (pos zero) = true
is_zero (pos (suc k)) = false
is_zero (negsuc k) = false

abbrev pub levels_of : Vector → Levels
levels_of n = levels (is_zero n.x) (is_zero n.y) (is_zero n.z)

-- ---- the spread S
-- the squared length
unfoldable pub squared : Vector → ℕ
squared a = nat_abs (dot a a)

-- the sides, each in one direction
abbrev pub sides : List Pair
sides = P01 ∷ P02 ∷ P12 ∷ []

-- the greatest squared length of these pairs' ways, 0 of none
unfoldable pub longest : Triangle → List Pair → ℕ
longest m [] = 0
longest m (x ∷ xs) = max (squared (way m x)) (longest m xs)

-- that of the sides between remaining corners, and 1 for each level axis
unfoldable pub spread : Levels → Triangle → ℕ
spread v m = longest m (only (takes_part v) sides) + length (only (level v) all_axes)

-- ---- the last power L
unfoldable pub last : List ℕ → ℕ
last [] = 0
last (l ∷ []) = l
last (l ∷ k ∷ ks) = last (k ∷ ks)

unfoldable pub last_power : ℕ → ℕ
last_power R = last (powers R)

-- ---- the bound at a power: the squared sine of the lean is below 3S / (power²·(n·n))
unfoldable pub bound_at : ℕ → AcceptedPick → Bound
bound_at power a = record { part = 3 * spread (levels_of a.normal) a.triangle; whole = power * power * squared a.normal }

-- ---- refusal 35: a refused pick, a reach outside 1 to 256, a part of the normal beyond 256 or of a vector beyond 2,046 in size, or a normal of zeros
unfoldable pub within : ℕ → Vector → Bool
within most a = leb (nat_abs a.x) most && (leb (nat_abs a.y) most && leb (nat_abs a.z) most)

unfoldable pub measurable : AcceptedPick → Bool
measurable a =
    within 256 a.normal
    && (within 2046 a.triangle.m0
    && (within 2046 a.triangle.m1
    && (within 2046 a.triangle.m2 && not (all_level (levels_of a.normal)))))

-- at the last power of the reach that the pick was asked with
unfoldable pub lean_of : Pick → ℤ → Lean
lean_of (Accepted a) reach = elim (between (pos 1) reach (pos 256) && measurable a) [ true ↦ Known (bound_at (last_power (nat_abs reach)) a) | false ↦ refused_input 35 ]
lean_of (Refused r) reach = refused_input 35

-- ---- the promise
pub record LeanPromise (pick : Pick) (reach : ℤ) (r : Lean) : Type 0 where
  pub is : r ≡ lean_of pick reach
