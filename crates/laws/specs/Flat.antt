-- Flat triangles: what every step keeps of level axes. A level axis's vector is its unit vector, and no other vector has a part along it. So the normal without
-- its level parts has product 0 with the level vectors and 1 with the others; and a vector with no level parts asks what it asks with 1 for each of them.
use Rattle.std.specs.Prelude.{◌≡◌, refl, Bool, true, false, not, List, [], ◌∷◌, T, ℤ, pos, ◌+ℤ◌, ◌-ℤ◌, ◌*ℤ◌}
use Rattle.std.proofs.Common.{sym, ap, subst, ◌∙◌, T_not}
use Rattle.integers.specs.Laws.{*ℤ-idl}
use Rattle.integers.specs.Reify.{byring, sides}
use Rattle.rules.specs.declared.Vector.{Vector}
use Rattle.rules.specs.declared.Levels.{Levels}
use Rattle.rules.specs.declared.Triangle.{Triangle}
use Rattle.rules.specs.declared.Pair.{Pair}
use Rattle.rules.specs.Vectors.{vector, ◌⊕◌, ◌⊖◌, scale, dot}
use Rattle.rules.specs.declared.Axis.{Axis}
use Rattle.rules.specs.declared.Axis.TheVariants.{Axis0 as axis0, Axis1 as axis1, Axis2 as axis2}
use Rattle.rules.specs.Walk.{unit, units, vector_of, with_vector, from, to, first, second, way, step, level, takes_part, unless_level, levelled}
use Rattle.laws.specs.Parts.{part, part-difference, vector-eq, of2, dot-difference, dot-unit, scale_one}
use Rattle.laws.specs.Triples.{det_of, crosses, combined, expand-crosses}
use Rattle.laws.specs.Levels.{from-remains, to-remains}

-- ---- flat triangles
-- P of the vector of each axis, and so of a triangle with a new m_k
of-with : (P : Axis → Vector → Type 0) (m : Triangle) (k : Axis) (a : Vector) → ((j : Axis) → P j (vector_of m j)) → P k a → (j : Axis) → P j (vector_of (with_vector m k a) j)
of-with P m axis0 a h p axis0 = p
of-with P m axis0 a h p axis1 = h axis1
of-with P m axis0 a h p axis2 = h axis2
of-with P m axis1 a h p axis0 = h axis0
of-with P m axis1 a h p axis1 = p
of-with P m axis1 a h p axis2 = h axis2
of-with P m axis2 a h p axis0 = h axis0
of-with P m axis2 a h p axis1 = h axis1
of-with P m axis2 a h p axis2 = p

-- the vector of axis j has the part along k that its unit vector has, and that of k is k's unit vector
pub record Along (k j : Axis) (a : Vector) : Type 0 where
  pub part-is : part k a ≡ part k (unit j)
  pub own : j ≡ k → a ≡ unit k

-- so along every level axis
abbrev pub Flat : Levels → Triangle → Type 0
Flat v m = (k : Axis) → T (level v k) → (j : Axis) → Along k j (vector_of m j)

pub units-flat : (v : Levels) → Flat v units
units-flat v k e axis0 = record { part-is = refl; own = λ p. ap unit p }
units-flat v k e axis1 = record { part-is = refl; own = λ p. ap unit p }
units-flat v k e axis2 = record { part-is = refl; own = λ p. ap unit p }

other-part : (k j : Axis) → (j ≡ k → ⊥) → part k (unit j) ≡ pos 0
other-part axis0 axis0 h = absurd (h refl)
other-part axis0 axis1 h = refl
other-part axis0 axis2 h = refl
other-part axis1 axis0 h = refl
other-part axis1 axis1 h = absurd (h refl)
other-part axis1 axis2 h = refl
other-part axis2 axis0 h = refl
other-part axis2 axis1 h = refl
other-part axis2 axis2 h = absurd (h refl)

none-less : (z : ℤ) → z -ℤ pos 0 ≡ z
none-less z = byring (z ∷ []) (search sides depth 40 fits 5000) tt

pub step-flat : (v : Levels) (m : Triangle) (x : Pair) → T (takes_part v x) → Flat v m → Flat v (step m x)
step-flat v m x t f k e = of-with (Along k) m (from x) (first m x ⊖ second m x) (f k e) (record { part-is = new-part; own = λ p. absurd (not-level (from x) (from-remains v x t) p) })
  where
    not-level : (j : Axis) → T (not (level v j)) → j ≡ k → ⊥
    not-level j r p = T_not (level v k) (subst (λ j. T (not (level v j))) p r) e

    new-part : part k (first m x ⊖ second m x) ≡ part k (unit (from x))
    new-part = part-difference k (first m x) (second m x) ∙ rw ((f k e (from x)).part-is, (f k e (to x)).part-is, other-part k (to x) (not-level (to x) (to-remains v x t))) (none-less (part k (unit (from x))))

-- ---- n with 1 along the level axes
abbrev pub raise : Bool → ℤ → ℤ
raise true z = pos 1
raise false z = z

unfoldable pub raised : Levels → Vector → Vector
raised v n = vector (raise v.x n.x) (raise v.y n.y) (raise v.z n.z)

-- 1 of a level axis
abbrev pub is_one : Bool → ℤ
is_one true = pos 1
is_one false = pos 0

-- the normal's product with an axis's vector: 0 with a level one's, 1 with one that remains
abbrev pub product : Bool → ℤ
product true = pos 0
product false = pos 1

-- n has no part along a level axis
abbrev pub Lies : Levels → Vector → Type 0
Lies v n = (k : Axis) → T (level v k) → part k n ≡ pos 0

-- one part of a product, where a vector has d along a level axis
unit-part : (a d : ℤ) → d ≡ pos 0 *ℤ a +ℤ pos 1 *ℤ d
unit-part a d = byring (a ∷ d ∷ []) (search sides depth 40 fits 5000) tt

no_part : (n a d : ℤ) → pos 0 *ℤ a ≡ n *ℤ d -ℤ pos 1 *ℤ n *ℤ d
no_part n a d = byring (n ∷ a ∷ d ∷ []) (search sides depth 40 fits 5000) tt

raise-part : (b : Bool) (n a d : ℤ) → (T b → n ≡ pos 0) → (T b → a ≡ d) → raise b n *ℤ a ≡ n *ℤ a +ℤ is_one b *ℤ d
raise-part true n a d p q = *ℤ-idl a ∙ q tt ∙ unit-part a d ∙ ap (λ z. z *ℤ a +ℤ pos 1 *ℤ d) (sym (p tt))
raise-part false n a d p q = byring (n ∷ a ∷ d ∷ []) (search sides depth 40 fits 5000) tt

level-part : (b : Bool) (n a d : ℤ) → (T b → a ≡ d) → unless_level b n *ℤ a ≡ n *ℤ a -ℤ is_one b *ℤ n *ℤ d
level-part true n a d q = no_part n a d ∙ ap (λ z. n *ℤ z -ℤ pos 1 *ℤ n *ℤ d) (sym (q tt))
level-part false n a d q = byring (n ∷ a ∷ d ∷ []) (search sides depth 40 fits 5000) tt

-- a sum over the parts of a unit vector is one term of it
pub over-unit : (c : Axis → ℤ) (j : Axis) → c axis0 *ℤ (unit j).x +ℤ c axis1 *ℤ (unit j).y +ℤ c axis2 *ℤ (unit j).z ≡ c j
over-unit c axis0 = byring (c axis0 ∷ c axis1 ∷ c axis2 ∷ []) (search sides depth 40 fits 5000) tt
over-unit c axis1 = byring (c axis0 ∷ c axis1 ∷ c axis2 ∷ []) (search sides depth 40 fits 5000) tt
over-unit c axis2 = byring (c axis0 ∷ c axis1 ∷ c axis2 ∷ []) (search sides depth 40 fits 5000) tt

-- the products with a vector a that has d along the level axes
module _ (v : Levels) (n a d : Vector) (h : (k : Axis) → T (level v k) → part k a ≡ part k d) where
  abbrev ones : List ℤ
  ones = is_one v.x ∷ is_one v.y ∷ is_one v.z ∷ d.x ∷ d.y ∷ d.z ∷ of2 n a

  raised-along : Lies v n → dot (raised v n) a ≡ dot n a +ℤ (is_one v.x *ℤ d.x +ℤ is_one v.y *ℤ d.y +ℤ is_one v.z *ℤ d.z)
  unfolding dot raised
  raised-along l =
      rw (raise-part v.x n.x a.x d.x (l axis0) (h axis0), raise-part v.y n.y a.y d.y (l axis1) (h axis1), raise-part v.z n.z a.z d.z (l axis2) (h axis2))
      (byring ones (search sides depth 40 fits 5000) tt)

  pub levelled-along : dot (levelled v n) a ≡ dot n a -ℤ (is_one v.x *ℤ n.x *ℤ d.x +ℤ is_one v.y *ℤ n.y *ℤ d.y +ℤ is_one v.z *ℤ n.z *ℤ d.z)
  unfolding dot levelled
  levelled-along =
      rw (level-part v.x n.x a.x d.x (h axis0), level-part v.y n.y a.y d.y (h axis1), level-part v.z n.z a.z d.z (h axis2))
      (byring ones (search sides depth 40 fits 5000) tt)

no_one : (b : Bool) → T (not b) → is_one b ≡ pos 0
no_one true h = absurd h
no_one false h = refl

module _ (v : Levels) (m : Triangle) (f : Flat v m) where
  pub part-along : (j k : Axis) → T (level v k) → part k (vector_of m j) ≡ part k (unit j)
  part-along j k e = (f k e j).part-is

  module _ (n : Vector) (l : Lies v n) where
    pub raised-dot : (j : Axis) → dot (raised v n) (vector_of m j) ≡ dot n (vector_of m j) +ℤ is_one (level v j)
    raised-dot j = raised-along v n (vector_of m j) (unit j) (part-along j) l ∙ ap (λ z. dot n (vector_of m j) +ℤ z) (over-unit (λ k. is_one (level v k)) j)

    pub raised-same : (j : Axis) → T (not (level v j)) → dot (raised v n) (vector_of m j) ≡ dot n (vector_of m j)
    raised-same j r = raised-dot j ∙ rw (no_one (level v j) r) (byring (dot n (vector_of m j) ∷ []) (search sides depth 40 fits 5000) tt)

    -- so the pairs that take part ask the same
    pub raised-way : (x : Pair) → T (takes_part v x) → dot (raised v n) (way m x) ≡ dot n (way m x)
    raised-way x t =
        dot-difference (raised v n) (second m x) (first m x) ∙ rw (raised-same (from x) (from-remains v x t), raised-same (to x) (to-remains v x t)) (sym (dot-difference n (second m x) (first m x)))

    -- none along a level axis
    pub level-dot : (j : Axis) → T (level v j) → dot n (vector_of m j) ≡ pos 0
    level-dot j e = ap (dot n) ((f j e j).own refl) ∙ dot-unit n j ∙ l j e

  -- on every solid: 0 with the level vectors and 1 with the others
  pub product_is : (b : Bool) (z p : ℤ) → p ≡ pos 1 → (T b → z ≡ p) → p -ℤ is_one b *ℤ z ≡ product b
  product_is true z p e h = rw (h tt, e)
  product_is false z p e h = rw e (byring (z ∷ []) (search sides depth 40 fits 5000) tt)

-- raised and levelled again is n
back : (b : Bool) (z : ℤ) → (T b → z ≡ pos 0) → unless_level b (raise b z) ≡ z
back true z h = sym (h tt)
back false z h = refl

pub levelled-raised : (v : Levels) (n : Vector) → Lies v n → levelled v (raised v n) ≡ n
unfolding levelled raised
levelled-raised v n l = vector-eq (back v.x n.x (l axis0)) (back v.y n.y (l axis1)) (back v.z n.z (l axis2))

-- ---- a vector whose products are a times others is a times a vector
spread : (a x y z p q r : ℤ) → a *ℤ x *ℤ p +ℤ a *ℤ y *ℤ q +ℤ a *ℤ z *ℤ r ≡ a *ℤ (x *ℤ p +ℤ y *ℤ q +ℤ z *ℤ r)
spread a x y z p q r = byring (a ∷ x ∷ y ∷ z ∷ p ∷ q ∷ r ∷ []) (search sides depth 40 fits 5000) tt

pub scaled-products : (n : Vector) (m : Triangle) (a : ℤ) (w : Axis → ℤ) → det_of m ≡ pos 1 → ((k : Axis) → dot n (vector_of m k) ≡ a *ℤ w k) → n ≡ scale a (combined (crosses m) (w axis0) (w axis1) (w axis2))
unfolding scale ◌⊕◌
scaled-products n m a w d h = sym (scale_one n) ∙ (rw (d, h axis0, h axis1, h axis2) at (expand-crosses m n)) ∙ vector-eq (spread a (w axis0) (w axis1) (w axis2) _ _ _) (spread a (w axis0) (w axis1) (w axis2) _ _ _) (spread a (w axis0) (w axis1) (w axis2) _ _ _)
