-- What every step keeps, on every solid: determinant 1, and cross products with no negative part. A step (k, l) adds b_k to b_l and changes no other.
-- A row of zeros would make the determinant 0, so each part of their sum, the normal, is at least 1.
use Rattle.std.specs.Prelude.{◌≡◌, refl, ◌⊎◌, [], ◌∷◌, ℕ, ℤ, pos, ◌+ℤ◌, ◌*ℤ◌, ◌≤ℤ◌, ◌<ℤ◌}
use Rattle.std.proofs.Common.{sym, ◌∙◌, inl, inr, arith}
use Rattle.integers.specs.Reify.{byring, sides}
use Rattle.integers.specs.Order.{parts, linear, atom, goal, fact}
use Rattle.rules.specs.declared.Vector.{Vector}
use Rattle.rules.specs.declared.Triangle.{Triangle}
use Rattle.rules.specs.declared.Pair.{Pair}
use Rattle.rules.specs.declared.Pair.TheVariants.{P01, P02, P10, P12, P20, P21}
use Rattle.rules.specs.Vectors.{vector, ◌⊕◌, ◌⊖◌, dot, cross, det}
use Rattle.rules.specs.Walk.{triangle, units, first, second, with, step, normal}
use Rattle.laws.specs.Tests.{compared}
use Rattle.laws.specs.Parts.{vector-eq, NonNegative, Positive, of2, of3}
use Rattle.laws.specs.Triples.{All, all_first, all-second, all-with, det_of, of9, step-det, crosses}

-- the pair (l, k)
abbrev pub turned : Pair → Pair
turned P01 = P10
turned P02 = P20
turned P10 = P01
turned P12 = P21
turned P20 = P02
turned P21 = P12

cross-right : (a b c : Vector) → cross a (b ⊖ c) ≡ cross c a ⊕ cross a b
unfolding cross ◌⊕◌ ◌⊖◌
cross-right a b c = vector-eq (byring (of3 a b c) (search sides depth 40 fits 5000) tt) (byring (of3 a b c) (search sides depth 40 fits 5000) tt) (byring (of3 a b c) (search sides depth 40 fits 5000) tt)

cross-left : (a b c : Vector) → cross (b ⊖ c) a ≡ cross a c ⊕ cross b a
unfolding cross ◌⊕◌ ◌⊖◌
cross-left a b c = vector-eq (byring (of3 a b c) (search sides depth 40 fits 5000) tt) (byring (of3 a b c) (search sides depth 40 fits 5000) tt) (byring (of3 a b c) (search sides depth 40 fits 5000) tt)

same_left : (a b : Vector) → cross (a ⊖ b) b ≡ cross a b
unfolding cross ◌⊖◌
same_left a b = vector-eq (byring (of2 a b) (search sides depth 40 fits 5000) tt) (byring (of2 a b) (search sides depth 40 fits 5000) tt) (byring (of2 a b) (search sides depth 40 fits 5000) tt)

same-right : (a b : Vector) → cross b (a ⊖ b) ≡ cross b a
unfolding cross ◌⊖◌
same-right a b = vector-eq (byring (of2 a b) (search sides depth 40 fits 5000) tt) (byring (of2 a b) (search sides depth 40 fits 5000) tt) (byring (of2 a b) (search sides depth 40 fits 5000) tt)

triangle-eq : {a b c d e f : Vector} → a ≡ d → b ≡ e → c ≡ f → triangle a b c ≡ triangle d e f
triangle-eq p q r = λ i. record { m0 = p i; m1 = q i; m2 = r i }

-- b_l becomes b_k + b_l
pub step-crosses : (m : Triangle) (x : Pair) → crosses (step m x) ≡ with (crosses m) (turned x) (first (crosses m) x ⊕ second (crosses m) x)
step-crosses m P01 = triangle-eq refl (cross-right m.m2 m.m0 m.m1) (same_left m.m0 m.m1)
step-crosses m P02 = triangle-eq refl (same-right m.m0 m.m2) (cross-left m.m1 m.m0 m.m2)
step-crosses m P10 = triangle-eq (cross-left m.m2 m.m1 m.m0) refl (same-right m.m1 m.m0)
step-crosses m P12 = triangle-eq (same_left m.m1 m.m2) refl (cross-right m.m0 m.m1 m.m2)
step-crosses m P20 = triangle-eq (cross-right m.m1 m.m2 m.m0) (same_left m.m2 m.m0) refl
step-crosses m P21 = triangle-eq (same-right m.m2 m.m1) (cross-left m.m0 m.m2 m.m1) refl

-- ---- what every step keeps, on every solid
pub record Tame (m : Triangle) : Type 0 where
  pub unimodular : det_of m ≡ pos 1
  pub upward : All NonNegative (crosses m)

sum-upward : {a b : ℤ} → pos 0 ≤ℤ a → pos 0 ≤ℤ b → pos 0 ≤ℤ (a +ℤ b)
sum-upward {a} {b} h k = let x = atom a in let y = atom b in goal (search linear) (omega (arith, parts))

both-upward : {a b : Vector} → NonNegative a → NonNegative b → NonNegative (a ⊕ b)
unfolding ◌⊕◌
both-upward h k = record { of_x = sum-upward h.of_x k.of_x; of_y = sum-upward h.of_y k.of_y; of_z = sum-upward h.of_z k.of_z }

naturals : (a b c : ℕ) → NonNegative (vector (pos a) (pos b) (pos c))
naturals a b c = record { of_x = omega (arith, parts); of_y = omega (arith, parts); of_z = omega (arith, parts) }

pub units-tame : Tame units
unfolding det dot cross
units-tame = record { unimodular = refl; upward = record { of0 = naturals 1 0 0; of1 = naturals 0 1 0; of2 = naturals 0 0 1 } }

pub step-tame : (m : Triangle) (x : Pair) → Tame m → Tame (step m x)
step-tame m x t = record {
  unimodular = step-det m x ∙ t.unimodular;
  upward = rw (step-crosses m x) (all-with t.upward (turned x) (both-upward (all_first t.upward x) (all-second t.upward x)));
}

-- ---- each part of the normal is at least 1
all-zero : (x y z : ℤ) → pos 0 *ℤ x +ℤ pos 0 *ℤ y +ℤ pos 0 *ℤ z ≡ pos 0
all-zero x y z = byring (x ∷ y ∷ z ∷ []) (search sides depth 40 fits 5000) tt

not-all-zero : (a b c x y z : ℤ) {d : ℤ} → d ≡ pos 1 → a *ℤ x +ℤ b *ℤ y +ℤ c *ℤ z ≡ d → pos 0 ≤ℤ a → pos 0 ≤ℤ b → pos 0 ≤ℤ c → pos 1 ≤ℤ (c +ℤ a +ℤ b)
not-all-zero a b c x y z one e ha hb hc = go (compared (c +ℤ a +ℤ b) (pos 1))
  where
    go : ((c +ℤ a +ℤ b) <ℤ pos 1) ⊎ (pos 1 ≤ℤ (c +ℤ a +ℤ b)) → pos 1 ≤ℤ (c +ℤ a +ℤ b)
    go (inr h) = h
    go (inl h) =
        let u = atom a in let v = atom b in let w = atom c in
        let f = fact (search linear) h in
        let a0 : a ≡ pos 0 = omega (arith, parts) in
        let b0 : b ≡ pos 0 = omega (arith, parts) in
        let c0 : c ≡ pos 0 = omega (arith, parts) in
        absurd (omega (arith, parts, sym (all-zero x y z) ∙ (rw (a0, b0, c0) at (e ∙ one))))

pub tame-normal : (m : Triangle) → Tame m → Positive (normal m)
unfolding normal ◌⊕◌ det dot cross
tame-normal m t =
    let b = crosses m in let up = t.upward in
    record {
      of_x = not-all-zero b.m0.x b.m1.x b.m2.x m.m0.x m.m1.x m.m2.x t.unimodular (byring (of9 m) (search sides depth 40 fits 5000) tt) up.of0.of_x up.of1.of_x up.of2.of_x;
      of_y = not-all-zero b.m0.y b.m1.y b.m2.y m.m0.y m.m1.y m.m2.y t.unimodular (byring (of9 m) (search sides depth 40 fits 5000) tt) up.of0.of_y up.of1.of_y up.of2.of_y;
      of_z = not-all-zero b.m0.z b.m1.z b.m2.z m.m0.z m.m1.z m.m2.z t.unimodular (byring (of9 m) (search sides depth 40 fits 5000) tt) up.of0.of_z up.of1.of_z up.of2.of_z;
    }
