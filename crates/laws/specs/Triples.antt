-- Triples of whole vectors. A step is a row operation, so the determinant stays 1. The cross products b0 = m1×m2, b1 = m2×m0, b2 = m0×m1 are the
-- inverse's columns: v = Σ (b_k·v) m_k, and their sum, the normal, has product 1 with each m_k.
use Rattle.std.specs.Prelude.{◌≡◌, List, [], ◌∷◌, ℤ, pos, ◌+ℤ◌, ◌*ℤ◌}
use Rattle.std.proofs.Common.{sym, ◌∙◌}
use Rattle.integers.specs.Reify.{byring, sides}
use Rattle.rules.specs.declared.Vector.{Vector}
use Rattle.rules.specs.declared.Triangle.{Triangle}
use Rattle.rules.specs.declared.Pair.{Pair}
use Rattle.rules.specs.declared.Pair.TheVariants.{P01, P02, P10, P12, P20, P21}
use Rattle.rules.specs.Vectors.{◌⊕◌, ◌⊖◌, scale, dot, cross, det}
use Rattle.rules.specs.declared.Axis.{Axis}
use Rattle.rules.specs.declared.Axis.TheVariants.{Axis0 as axis0, Axis1 as axis1, Axis2 as axis2}
use Rattle.rules.specs.Walk.{triangle, vector_of, with_vector, from, to, first, second, with, step, normal}
use Rattle.laws.specs.Parts.{vector-eq, of3, scale_one}

-- ---- P of each triangle vector, and so of m_k, of m_l and of a triangle with a new m_k
pub record All (P : Vector → Type 0) (m : Triangle) : Type 0 where
  pub of0 : P m.m0
  pub of1 : P m.m1
  pub of2 : P m.m2

pub all-by : {P : Vector → Type 0} {m : Triangle} → ((k : Axis) → P (vector_of m k)) → All P m
all-by h = record { of0 = h axis0; of1 = h axis1; of2 = h axis2 }

module _ {P : Vector → Type 0} {m : Triangle} (h : All P m) where
  pub all_of : (k : Axis) → P (vector_of m k)
  all_of axis0 = h.of0
  all_of axis1 = h.of1
  all_of axis2 = h.of2

  pub all-with-vector : (k : Axis) {a : Vector} → P a → All P (with_vector m k a)
  all-with-vector axis0 p = record { of0 = p; of1 = h.of1; of2 = h.of2 }
  all-with-vector axis1 p = record { of0 = h.of0; of1 = p; of2 = h.of2 }
  all-with-vector axis2 p = record { of0 = h.of0; of1 = h.of1; of2 = p }

  pub all_first : (x : Pair) → P (first m x)
  all_first x = all_of (from x)

  pub all-second : (x : Pair) → P (second m x)
  all-second x = all_of (to x)

  pub all-with : (x : Pair) {a : Vector} → P a → All P (with m x a)
  all-with x p = all-with-vector (from x) p

-- ---- the determinant
abbrev pub det_of : Triangle → ℤ
det_of m = det m.m0 m.m1 m.m2

abbrev pub of9 : Triangle → List ℤ
of9 m = of3 m.m0 m.m1 m.m2

abbrev pub of12 : Triangle → Vector → List ℤ
of12 m a = a.x ∷ a.y ∷ a.z ∷ of9 m

pub step-det : (m : Triangle) (x : Pair) → det_of (step m x) ≡ det_of m
unfolding det dot cross ◌⊖◌
step-det m P01 = byring (of9 m) (search sides depth 40 fits 5000) tt
step-det m P02 = byring (of9 m) (search sides depth 40 fits 5000) tt
step-det m P10 = byring (of9 m) (search sides depth 40 fits 5000) tt
step-det m P12 = byring (of9 m) (search sides depth 40 fits 5000) tt
step-det m P20 = byring (of9 m) (search sides depth 40 fits 5000) tt
step-det m P21 = byring (of9 m) (search sides depth 40 fits 5000) tt

pub normal-dot : (m : Triangle) → All (λ a. dot (normal m) a ≡ det_of m) m
unfolding det dot cross normal ◌⊕◌
normal-dot m = record {
  of0 = byring (of9 m) (search sides depth 40 fits 5000) tt;
  of1 = byring (of9 m) (search sides depth 40 fits 5000) tt;
  of2 = byring (of9 m) (search sides depth 40 fits 5000) tt;
}

-- ---- the cross products
abbrev pub crosses : Triangle → Triangle
crosses m = triangle (cross m.m1 m.m2) (cross m.m2 m.m0) (cross m.m0 m.m1)

-- a m0 + b m1 + c m2
abbrev pub combined : Triangle → ℤ → ℤ → ℤ → Vector
combined m a b c = scale a m.m0 ⊕ scale b m.m1 ⊕ scale c m.m2

pub expand : (m : Triangle) (v : Vector) → scale (det_of m) v ≡ combined m (dot (crosses m).m0 v) (dot (crosses m).m1 v) (dot (crosses m).m2 v)
unfolding det dot cross scale ◌⊕◌
expand m v = vector-eq
    (byring (of12 m v) (search sides depth 40 fits 5000) tt)
    (byring (of12 m v) (search sides depth 40 fits 5000) tt)
    (byring (of12 m v) (search sides depth 40 fits 5000) tt)

pub expand-crosses : (m : Triangle) (v : Vector) → scale (det_of m) v ≡ combined (crosses m) (dot v m.m0) (dot v m.m1) (dot v m.m2)
unfolding det dot cross scale ◌⊕◌
expand-crosses m v = vector-eq
    (byring (of12 m v) (search sides depth 40 fits 5000) tt)
    (byring (of12 m v) (search sides depth 40 fits 5000) tt)
    (byring (of12 m v) (search sides depth 40 fits 5000) tt)

-- ---- a vector whose products with m0, m1 and m2 are equal is a multiple of the normal
together : (a x y z : ℤ) → a *ℤ x +ℤ a *ℤ y +ℤ a *ℤ z ≡ a *ℤ (z +ℤ x +ℤ y)
together a x y z = byring (a ∷ x ∷ y ∷ z ∷ []) (search sides depth 40 fits 5000) tt

combined-same : (b : Triangle) (a : ℤ) → combined b a a a ≡ scale a (b.m2 ⊕ b.m0 ⊕ b.m1)
unfolding scale ◌⊕◌
combined-same b a = vector-eq (together a b.m0.x b.m1.x b.m2.x) (together a b.m0.y b.m1.y b.m2.y) (together a b.m0.z b.m1.z b.m2.z)

pub equal-products : (n : Vector) (m : Triangle) → det_of m ≡ pos 1 → dot n m.m1 ≡ dot n m.m0 → dot n m.m2 ≡ dot n m.m0 → n ≡ scale (dot n m.m0) (normal m)
unfolding normal
equal-products n m d e f = sym (scale_one n) ∙ (rw (d, e, f) at (expand-crosses m n)) ∙ combined-same (crosses m) (dot n m.m0)
