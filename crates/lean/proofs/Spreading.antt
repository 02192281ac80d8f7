-- The spread by its sides and its level axes, as the code adds them up: a side that takes no part counts 0, and each level axis 1.
use mathlib.Core.Path.{◌≡◌, refl, sym}
use mathlib.Core.Bool.{Bool, true, false, not, ◌&&◌}
use mathlib.Core.List.{List}
use Prim.Native.Nat.{ℕ, ◌+◌, ◌≤◌, max}
use native.Mathlib.Omega.{arith}
use lib.Dec.{lit≤}
use mir.Syntax.{w32}
use mir.Val.{Fits, bool_byte}
use Rattle.rules.specs.declared.Vector.{Vector}
use Rattle.rules.specs.declared.Levels.{Levels}
use Rattle.rules.specs.declared.Triangle.{Triangle}
use Rattle.rules.specs.declared.Pair.{Pair}
use Rattle.rules.specs.declared.Pair.TheVariants.{P01, P02, P12}
use Rattle.rules.specs.Vectors.{◌⊖◌}
use Rattle.rules.specs.Walk.{way, keep, only, takes_part}
use Rattle.rules.specs.Lean.{longest, spread}
use Rattle.laws.specs.Flags.{at_most_one, one_more}
use Rattle.laws.specs.Triples.{All}
use Rattle.laws.specs.Bounds.{Bounded, bounded-difference}
use Rattle.lean.specs.Sides.{side_of, Side}
use Rattle.lean.specs.Sizes.{squared-low}

longest-kept : (m : Triangle) (b : Bool) (x : Pair) (xs : List Pair) → longest m (keep b x xs) ≡ max (side_of b (way m x)) (longest m xs)
unfolding longest keep
longest-kept m true x xs = refl
longest-kept m false x xs = omega arith

-- neither of two axes is level
abbrev neither : Bool → Bool → Bool
neither a b = not a && not b

abbrev level_count : Levels → ℕ
level_count v = bool_byte v.x + bool_byte v.y + bool_byte v.z

spread-is : (v : Levels) (m : Triangle) → spread v m ≡ max (side_of (neither v.x v.y) (way m P01)) (max (side_of (neither v.x v.z) (way m P02)) (side_of (neither v.y v.z) (way m P12))) + level_count v
unfolding spread longest only takes_part
spread-is v m = simp (longest-kept, one_more) (omega arith)

-- ---- the sums fit
-- 3·4092²
side-of-low : (part : Bool) {k l : Vector} → Bounded 2046 k → Bounded 2046 l → side_of part (l ⊖ k) ≤ 50233392
side-of-low true h i = squared-low (bounded-difference i h)
side-of-low false h i = lit≤ tt

side-low : {part : Bool} {k l : Vector} {r : ℕ} → Side part k l r → Bounded 2046 k → Bounded 2046 l → r ≤ 50233392
side-low {part} s h i = omega (arith, s.is, side-of-low part h i)

-- ---- as the code comes to it
module _ (v : Levels) {m : Triangle} {a b c most longest : ℕ}
    (p : Side (neither v.x v.y) m.m0 m.m1 a) (q : Side (neither v.x v.z) m.m0 m.m2 b) (r : Side (neither v.y v.z) m.m1 m.m2 c)
    (s : most ≡ max b c) (t : longest ≡ max a most) where
  pub sum_low : All (Bounded 2046) m → Fits w32 (longest + level_count v)
  sum_low h =
      let first = side-low p h.of0 h.of1 in
      let second = side-low q h.of0 h.of2 in
      let third = side-low r h.of1 h.of2 in
      omega (arith, at_most_one v.x, at_most_one v.y, at_most_one v.z)

  pub sum_is : longest + level_count v ≡ spread v m
  sum_is = rw (t, s, p.is, q.is, r.is) (sym (spread-is v m))
