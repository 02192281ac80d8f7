-- The walk's array: each triangle vector laid in, with its rank. A step of it is document 01's step of the triangle in the frame, and keeps the ranks.
use Rattle.std.specs.Prelude.{◌≡◌, refl, List, [], ◌∷◌, ℕ, ◌<◌, ℤ, pos, ◌-ℤ◌, length, get_or, set}
use Rattle.std.proofs.Common.{sym, ap, ◌∙◌, arith, length-set}
use Rattle.integers.specs.Sizes.{Within, within-is}
use Rattle.rules.specs.declared.Vector.{Vector}
use Rattle.rules.specs.declared.Triangle.{Triangle}
use Rattle.rules.specs.declared.Pair.{Pair}
use Rattle.rules.specs.Vectors.{vector, ◌⊖◌, dot, lay}
use Rattle.rules.specs.declared.Axis.{Axis}
use Rattle.rules.specs.declared.Axis.TheVariants.{Axis0 as axis0, Axis1 as axis1, Axis2 as axis2}
use Rattle.rules.specs.Walk.{triangle, laid, vector_of, with_vector, from, to, first, second, way, step}
use Rattle.laws.specs.Parts.{dot-difference}
use Rattle.laws.specs.Triples.{all_of}
use Rattle.laws.specs.Frames.{Signs, lay-lay, lay-dot, lay-difference}
use Rattle.laws.specs.Bounds.{Bounded, bounded-is, bounded-lay}
use Rattle.laws.specs.Sphere.{weight}
use Rattle.solid.specs.Grid.{ranks_of}
use Rattle.solid.specs.Ranks.{rank-within}
use Rattle.falls.specs.declared.Scene.{Scene}
use Rattle.falls.specs.Scene.{Ready}
use Rattle.falls.specs.Sizes.{signs-bounded}
use Rattle.choice.specs.Sound.{Sound, all-bounded}
use Rattle.round.specs.declared.Corner.{Corner}

abbrev pub corner : Vector → ℤ → Corner
corner a z = record { at = a; rank = z }

-- the place of an axis
abbrev pub index : Axis → ℕ
index axis0 = 0
index axis1 = 1
index axis2 = 2

-- m_k, laid in, with its rank
abbrev pub corner_at : List Corner → Axis → Corner
corner_at ms k = get_or ms (index k) (corner (vector (pos 0) (pos 0) (pos 0)) (pos 0))

-- a difference has the difference of the ranks
abbrev pub difference : Corner → Corner → Corner
difference a b = corner (a.at ⊖ b.at) (a.rank -ℤ b.rank)

-- after a step
abbrev pub stepped : List Corner → Pair → List Corner
stepped ms x = set ms (index (from x)) (difference (corner_at ms (from x)) (corner_at ms (to x)))

-- the triangle laid in, and in the frame with the signs s
abbrev pub corners_in : List Corner → Triangle
corners_in ms = triangle (corner_at ms axis0).at (corner_at ms axis1).at (corner_at ms axis2).at

abbrev pub triangle_in : Vector → List Corner → Triangle
triangle_in s ms = laid s (corners_in ms)

-- a rank is that of its vector, a product with r
abbrev IsRanked : Vector → Corner → Type 0
IsRanked r a = a.rank ≡ dot r a.at

pub record Ranked (r : Vector) (ms : List Corner) : Type 0 where
  pub rank0 : IsRanked r (corner_at ms axis0)
  pub rank1 : IsRanked r (corner_at ms axis1)
  pub rank2 : IsRanked r (corner_at ms axis2)

-- so small that differences fit
pub record Small (a : Corner) : Type 0 where
  pub bounded : Bounded 1023 a.at
  pub within : Within 69089328 a.rank

pub record AllSmall (ms : List Corner) : Type 0 where
  pub corners : (k : Axis) → Small (corner_at ms k)

pub laid-laid : (s : Vector) (m : Triangle) → Signs s → laid s (laid s m) ≡ m
laid-laid s m g = λ i. triangle (lay-lay s m.m0 g i) (lay-lay s m.m1 g i) (lay-lay s m.m2 g i)

-- ---- what an axis names
pub index_below : {i : ℕ} (k : Axis) → i ≡ index k → i < 3
index_below axis0 e = omega arith
index_below axis1 e = omega arith
index_below axis2 e = omega arith

corner-of : (s : Vector) (ms : List Corner) (k : Axis) → vector_of (triangle_in s ms) k ≡ lay s (corner_at ms k).at
corner-of s ms axis0 = refl
corner-of s ms axis1 = refl
corner-of s ms axis2 = refl

module _ {s : Vector} (ms : List Corner) (g : Signs s) where
  -- laid back twice
  corner-laid : (k : Axis) → (corner_at ms k).at ≡ lay s (vector_of (triangle_in s ms) k)
  corner-laid k = sym (ap (lay s) (corner-of s ms k) ∙ lay-lay s (corner_at ms k).at g)

  -- a difference of what is laid in is the way, laid in
  pub way-laid : (x : Pair) → (corner_at ms (to x)).at ⊖ (corner_at ms (from x)).at ≡ lay s (way (triangle_in s ms) x)
  way-laid x = (λ i. corner-laid (to x) i ⊖ corner-laid (from x) i) ∙ sym (lay-difference s (second (triangle_in s ms) x) (first (triangle_in s ms) x))

  -- and products are those in the frame
  pub weight-laid : (x : Pair) → dot (corner_at ms (to x)).at ((corner_at ms (to x)).at ⊖ (corner_at ms (from x)).at) ≡ weight (triangle_in s ms) x
  weight-laid x = let m = triangle_in s ms in (λ i. dot (corner-laid (to x) i) (way-laid x i)) ∙ lay-dot s (second m x) (lay s (way m x)) ∙ ap (dot (second m x)) (lay-lay s (way m x) g)

  corners-bounded : Sound (triangle_in s ms) → (k : Axis) → Bounded 1023 (corner_at ms k).at
  corners-bounded h k = bounded-is (corner-laid k) (bounded-lay (signs-bounded g) (all_of (all-bounded h) k))

-- ---- ranks
module _ {r : Vector} {ms : List Corner} (h : Ranked r ms) where
  rank-of : (k : Axis) → IsRanked r (corner_at ms k)
  rank-of axis0 = h.rank0
  rank-of axis1 = h.rank1
  rank-of axis2 = h.rank2

  -- the rank of a difference
  pub rank-difference : (k l : Axis) → IsRanked r (difference (corner_at ms k) (corner_at ms l))
  rank-difference k l = (λ i. rank-of k i -ℤ rank-of l i) ∙ sym (dot-difference r (corner_at ms k).at (corner_at ms l).at)

-- ranks of a sound triangle are small
pub small : {v : Scene} {bytes : List ℕ} (ms : List Corner) → Ready v bytes → Sound (triangle_in v.signs ms) → Ranked (ranks_of v.solid) ms → AllSmall ms
small {v} ms ready h k = record { corners = λ a. let c = corners-bounded ms ready.signed h a in record { bounded = c; within = within-is (rank-of k a) (rank-within v.solid ready.permitted c) } }

-- ---- a step of the array: of three corners everything computes
by-three : (P : List Corner → Type 0) → ((a b c : Corner) → P (a ∷ b ∷ c ∷ [])) → (ms : List Corner) → length ms ≡ 3 → P ms
by-three P h [] e = absurd (omega arith)
by-three P h (a ∷ []) e = absurd (omega arith)
by-three P h (a ∷ b ∷ []) e = absurd (omega arith)
by-three P h (a ∷ b ∷ c ∷ []) e = h a b c
by-three P h (a ∷ b ∷ c ∷ d ∷ ms) e = absurd (omega arith)

put-corners : (k : Axis) (a : Corner) (ms : List Corner) → length ms ≡ 3 → corners_in (set ms (index k) a) ≡ with_vector (corners_in ms) k a.at
put-corners axis0 a = by-three (λ ms. corners_in (set ms 0 a) ≡ with_vector (corners_in ms) axis0 a.at) (λ b c d. refl)
put-corners axis1 a = by-three (λ ms. corners_in (set ms 1 a) ≡ with_vector (corners_in ms) axis1 a.at) (λ b c d. refl)
put-corners axis2 a = by-three (λ ms. corners_in (set ms 2 a) ≡ with_vector (corners_in ms) axis2 a.at) (λ b c d. refl)

put-ranked : {r : Vector} (a : Corner) → IsRanked r a → (k : Axis) (ms : List Corner) → length ms ≡ 3 → Ranked r ms → Ranked r (set ms (index k) a)
put-ranked {r} a q axis0 = by-three (λ ms. Ranked r ms → Ranked r (set ms 0 a)) (λ b c d p. record { rank0 = q; rank1 = p.rank1; rank2 = p.rank2 })
put-ranked {r} a q axis1 = by-three (λ ms. Ranked r ms → Ranked r (set ms 1 a)) (λ b c d p. record { rank0 = p.rank0; rank1 = q; rank2 = p.rank2 })
put-ranked {r} a q axis2 = by-three (λ ms. Ranked r ms → Ranked r (set ms 2 a)) (λ b c d p. record { rank0 = p.rank0; rank1 = p.rank1; rank2 = q })

laid-with : (s : Vector) (m : Triangle) (k : Axis) (a : Vector) → laid s (with_vector m k a) ≡ with_vector (laid s m) k (lay s a)
laid-with s m axis0 a = refl
laid-with s m axis1 a = refl
laid-with s m axis2 a = refl

module _ (ms : List Corner) (whole : length ms ≡ 3) (x : Pair) where
  abbrev k : Corner
  k = corner_at ms (from x)

  abbrev l : Corner
  l = corner_at ms (to x)

  pub stepped-whole : length (stepped ms x) ≡ 3
  stepped-whole = simp length-set whole

  pub stepped-ranked : {r : Vector} → Ranked r ms → Ranked r (stepped ms x)
  stepped-ranked h = put-ranked (difference k l) (rank-difference h (from x) (to x)) (from x) ms whole h

  pub stepped-triangle : (s : Vector) → triangle_in s (stepped ms x) ≡ step (triangle_in s ms) x
  stepped-triangle s =
      ap (laid s) (put-corners (from x) (difference k l) ms whole)
      ∙ laid-with s (corners_in ms) (from x) (k.at ⊖ l.at)
      ∙ ap (with_vector (triangle_in s ms) (from x)) (lay-difference s k.at l.at ∙ (λ i. sym (corner-of s ms (from x)) i ⊖ sym (corner-of s ms (to x)) i))
