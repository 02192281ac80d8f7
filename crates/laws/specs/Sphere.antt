-- The determinant of the choice, for a triangle of determinant 1: D(x, y) = 2 (g(y) - g(x)) with the weight g(k, l) = m_l·(m_l - m_k), so strictly inside is a smaller weight.
-- One identity in fifteen variables splits D into a part of x and a part of y; both parts are linear in what is known of m0, m1 and m2.
use Rattle.std.specs.Prelude.{◌≡◌, ◌⊎◌, [], ◌∷◌, ℤ, pos, ◌+ℤ◌, ◌-ℤ◌, ◌*ℤ◌, ◌≤ℤ◌, ◌<ℤ◌}
use Rattle.std.proofs.Common.{sym, ap, ◌∙◌, inl, inr, arith}
use Rattle.std.specs.Int.Signed.{lt_z}
use Rattle.integers.specs.Reify.{byring, sides, by-eq}
use Rattle.integers.specs.Order.{parts, linear, atom, goal}
use Rattle.integers.specs.Sizes.{Within}
use Rattle.rules.specs.declared.Vector.{Vector}
use Rattle.rules.specs.declared.Triangle.{Triangle}
use Rattle.rules.specs.declared.Pair.{Pair}
use Rattle.rules.specs.Vectors.{◌⊕◌, ◌⊖◌, dot, cross, det, sphere}
use Rattle.rules.specs.Walk.{first, second, way, normal, determinant, inside}
use Rattle.laws.specs.Tests.{less, not-less, compared}
use Rattle.laws.specs.Parts.{of2, dot-sum, dot-difference}
use Rattle.laws.specs.Triples.{All, all_first, all-second, det_of, of9, crosses, normal-dot}
use Rattle.laws.specs.Bounds.{Bounded, way-bounded, within-dot}

-- m_l·(m_l - m_k)
abbrev pub weight : Triangle → Pair → ℤ
weight m x = dot (second m x) (way m x)

-- the squares of m0, m1, m2, spread by the cross products
spread : Triangle → Vector → ℤ
spread m a = dot m.m0 m.m0 *ℤ dot (crosses m).m0 a +ℤ dot m.m1 m.m1 *ℤ dot (crosses m).m1 a +ℤ dot m.m2 m.m2 *ℤ dot (crosses m).m2 a

-- the equation of the sphere through the corners and q, at q + a
power : Triangle → Vector → ℤ
power m a = det_of m *ℤ dot a a +ℤ spread m a

split : (m : Triangle) (a b : Vector)
    → det_of m *ℤ sphere (m.m0 ⊖ m.m1) (m.m0 ⊖ m.m2) (m.m0 ⊕ a) (m.m0 ⊕ b) ≡ dot (normal m) (m.m0 ⊕ a) *ℤ power m b -ℤ dot (normal m) (m.m0 ⊕ b) *ℤ power m a
unfolding power spread det dot cross sphere ◌⊕◌ ◌⊖◌ normal
split m a b = byring (a.x ∷ a.y ∷ a.z ∷ b.x ∷ b.y ∷ b.z ∷ of9 m) (search sides depth 40 fits 5000) tt

over-way : (m : Triangle) (x : Pair) → dot (normal m) (m.m0 ⊕ way m x) ≡ det_of m
over-way m x =
    rw (dot-sum (normal m) m.m0 (way m x), dot-difference (normal m) (second m x) (first m x), (normal-dot m).of0, all_first (normal-dot m) x, all-second (normal-dot m) x)
    (byring (det_of m ∷ []) (search sides depth 40 fits 5000) tt)

spread-difference : (m : Triangle) (a b : Vector) → spread m (a ⊖ b) ≡ spread m a -ℤ spread m b
unfolding spread
spread-difference m a b =
    rw (dot-difference (crosses m).m0 a b, dot-difference (crosses m).m1 a b, dot-difference (crosses m).m2 a b)
    (byring (dot m.m0 m.m0 ∷ dot m.m1 m.m1 ∷ dot m.m2 m.m2 ∷ dot (crosses m).m0 a ∷ dot (crosses m).m1 a ∷ dot (crosses m).m2 a ∷ dot (crosses m).m0 b ∷ dot (crosses m).m1 b ∷ dot (crosses m).m2 b ∷ []) (search sides depth 40 fits 5000) tt)

spread_at : (m : Triangle) → All (λ a. spread m a ≡ det_of m *ℤ dot a a) m
unfolding spread det dot cross
spread_at m = record {
  of0 = byring (of9 m) (search sides depth 40 fits 5000) tt;
  of1 = byring (of9 m) (search sides depth 40 fits 5000) tt;
  of2 = byring (of9 m) (search sides depth 40 fits 5000) tt;
}

-- (b - a)² + b² - a² = 2 b·(b - a)
twice : (d : ℤ) (a b : Vector) → d *ℤ dot (b ⊖ a) (b ⊖ a) +ℤ (d *ℤ dot b b -ℤ d *ℤ dot a a) ≡ pos 2 *ℤ d *ℤ dot b (b ⊖ a)
unfolding dot ◌⊖◌
twice d a b = byring (d ∷ of2 a b) (search sides depth 40 fits 5000) tt

power-way : (m : Triangle) (x : Pair) → power m (way m x) ≡ pos 2 *ℤ det_of m *ℤ weight m x
unfolding power
power-way m x = rw (spread-difference m (second m x) (first m x), all_first (spread_at m) x, all-second (spread_at m) x) (twice (det_of m) (first m x) (second m x))

pub determinant-is : (m : Triangle) (x y : Pair) → det_of m ≡ pos 1 → determinant m x y ≡ pos 2 *ℤ (weight m y -ℤ weight m x)
unfolding determinant
determinant-is m x y d =
    by-eq (pos 1) (rw (over-way m x, over-way m y, power-way m x, power-way m y, d) at (split m (way m x) (way m y)))
    (byring (sphere (m.m0 ⊖ m.m1) (m.m0 ⊖ m.m2) (m.m0 ⊕ way m x) (m.m0 ⊕ way m y) ∷ weight m x ∷ weight m y ∷ []) (search sides depth 40 fits 5000) tt)

-- ---- so strictly inside is a smaller weight
halved : (a b : ℤ) → lt_z (pos 2 *ℤ (a -ℤ b)) (pos 0) ≡ lt_z a b
halved a b = go (compared a b)
  where
    go : (a <ℤ b) ⊎ (b ≤ℤ a) → lt_z (pos 2 *ℤ (a -ℤ b)) (pos 0) ≡ lt_z a b
    go (inl h) = less (pos 2 *ℤ (a -ℤ b)) (pos 0) (let x = atom a in let y = atom b in goal (search linear) (omega (arith, parts))) ∙ sym (less a b h)
    go (inr h) = not-less (pos 2 *ℤ (a -ℤ b)) (pos 0) (let x = atom a in let y = atom b in goal (search linear) (omega (arith, parts))) ∙ sym (not-less a b h)

pub inside-by-weight : (m : Triangle) → det_of m ≡ pos 1 → (x y : Pair) → inside m x y ≡ lt_z (weight m y) (weight m x)
unfolding inside
inside-by-weight m d x y = ap (λ (z : ℤ). lt_z z (pos 0)) (determinant-is m x y d) ∙ halved (weight m y) (weight m x)

-- the size of a weight
pub weight-fits : (m : Triangle) → All (Bounded 1023) m → (x : Pair) → Within 6279174 (weight m x)
weight-fits m h x = within-dot (all-second h x) (way-bounded h x)
