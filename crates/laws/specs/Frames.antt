-- Frames: laying in by signs. Every fact of the walk is proved in frame coordinates; these lemmas carry it into the box and back.
use Rattle.std.specs.Prelude.{◌≡◌, refl, ◌⊎◌, false, [], ◌∷◌, ℕ, zero, suc, ◌+◌, ◌/◌, ◌%◌, ℤ, pos, negsuc, nat_abs, ◌+ℤ◌, ◌*ℤ◌, ◌≤ℤ◌}
use Rattle.std.proofs.Common.{sym, ap, ap₂, ◌∙◌, inl, inr, arith}
use Rattle.integers.specs.Reify.{byring, sides}
use Rattle.integers.specs.Order.{parts, linear, atom, fact}
use Rattle.integers.specs.Sizes.{product-size}
use Rattle.rules.specs.declared.Vector.{Vector}
use Rattle.rules.specs.Vectors.{◌⊕◌, ◌⊖◌, minus, scale, dot, lay, size}
use Rattle.rules.specs.declared.Axis.{Axis}
use Rattle.rules.specs.Walk.{sign, signs}
use Rattle.rules.specs.Lean.{is_zero}
use Rattle.laws.specs.Levels.{not-zero}
use Rattle.laws.specs.Parts.{Parts, part, part_of, part-minus, part-lay, part-difference, vector-by-parts, vector-eq, NonNegative, Positive, of3}

abbrev pub IsSign : ℤ → Type 0
IsSign z = (z ≡ pos 1) ⊎ (z ≡ negsuc 0)

abbrev pub Signs : Vector → Type 0
Signs = Parts IsSign

sign-is : (k : ℕ) → IsSign (sign k)
unfolding sign
sign-is zero = inl refl
sign-is (suc k) = inr refl

pub signs-are : (frame : ℕ) → Signs (signs frame)
unfolding signs
signs-are frame = record { of_x = sign-is (frame % 2); of_y = sign-is (frame / 2 % 2); of_z = sign-is (frame / 4 % 2) }

-- ---- laying in twice is nothing
twice : (s z : ℤ) → IsSign s → s *ℤ (s *ℤ z) ≡ z
twice s z (inl e) = rw e (byring (z ∷ []) (search sides depth 40 fits 5000) tt)
twice s z (inr e) = rw e (byring (z ∷ []) (search sides depth 40 fits 5000) tt)

pub lay-lay : (s u : Vector) → Signs s → lay s (lay s u) ≡ u
unfolding lay
lay-lay s u g = vector-eq (twice s.x u.x g.of_x) (twice s.y u.y g.of_y) (twice s.z u.z g.of_z)

pub lay-dot : (s n u : Vector) → dot (lay s n) u ≡ dot n (lay s u)
unfolding dot lay
lay-dot s n u = byring (of3 s n u) (search sides depth 40 fits 5000) tt

-- the apex is above the start by the sum of the normal's parts in the frame
pub dot-apex : (s n p : Vector) → dot n (p ⊕ s) ≡ dot n p +ℤ ((lay s n).x +ℤ (lay s n).y +ℤ (lay s n).z)
unfolding dot lay ◌⊕◌
dot-apex s n p = byring (of3 s n p) (search sides depth 40 fits 5000) tt

swapped : (s u d : ℤ) → s *ℤ (d *ℤ u) ≡ d *ℤ (s *ℤ u)
swapped s u d = byring (s ∷ u ∷ d ∷ []) (search sides depth 40 fits 5000) tt

pub lay-scale : (s u : Vector) (d : ℤ) → lay s (scale d u) ≡ scale d (lay s u)
unfolding lay scale
lay-scale s u d = vector-eq (swapped s.x u.x d) (swapped s.y u.y d) (swapped s.z u.z d)

gathered : (s a b : ℤ) → s *ℤ (a +ℤ b) ≡ s *ℤ a +ℤ s *ℤ b
gathered s a b = byring (s ∷ a ∷ b ∷ []) (search sides depth 40 fits 5000) tt

pub lay-sum : (s a b : Vector) → lay s (a ⊕ b) ≡ lay s a ⊕ lay s b
unfolding lay ◌⊕◌
lay-sum s a b = vector-eq (gathered s.x a.x b.x) (gathered s.y a.y b.y) (gathered s.z a.z b.z)

pub lay-minus : (s a : Vector) → lay s (minus a) ≡ minus (lay s a)
lay-minus s a = vector-by-parts (λ k. simp (part-lay, part-minus) (byring (part k s ∷ part k a ∷ []) (search sides depth 40 fits 5000) tt))

pub lay-difference : (s a b : Vector) → lay s (a ⊖ b) ≡ lay s a ⊖ lay s b
lay-difference s a b = vector-by-parts (λ k. simp (part-lay, part-difference) (byring (part k s ∷ part k a ∷ part k b ∷ []) (search sides depth 40 fits 5000) tt))

-- ---- sizes
pub sign-size : (s z : ℤ) → IsSign s → nat_abs (s *ℤ z) ≡ nat_abs z
sign-size s z (inl e) = product-size s z ∙ rw e (omega arith)
sign-size s z (inr e) = product-size s z ∙ rw e (omega arith)

-- whether a part is 0 doesn't depend on its sign
zero-size : (z : ℤ) → is_zero z ≡ is_zero (pos (nat_abs z))
zero-size (pos zero) = refl
zero-size (pos (suc k)) = refl
zero-size (negsuc k) = refl

pub sign_zero : (s z : ℤ) → IsSign s → is_zero (s *ℤ z) ≡ is_zero z
sign_zero s z g = zero-size (s *ℤ z) ∙ ap (λ (k : ℕ). is_zero (pos k)) (sign-size s z g) ∙ sym (zero-size z)

-- a part that is not 0 and not against the frame is at least 1 in it
pub lay-part-zero : (s n : Vector) → Signs s → (k : Axis) → is_zero (part k (lay s n)) ≡ is_zero (part k n)
lay-part-zero s n g k = ap is_zero (part-lay k s n) ∙ sign_zero (part k s) (part k n) (part_of g k)

pub lay-part-high : (s n : Vector) → Signs s → NonNegative (lay s n) → (k : Axis) → is_zero (part k n) ≡ false → pos 1 ≤ℤ part k (lay s n)
lay-part-high s n g h k e = not-zero (part k (lay s n)) (lay-part-zero s n g k ∙ e) (part_of h k)

pub lay-size : (s a : Vector) → Signs s → size (lay s a) ≡ size a
unfolding size lay
lay-size s a g = ap₂ ◌+◌ (ap₂ ◌+◌ (sign-size _ _ g.of_x) (sign-size _ _ g.of_y)) (sign-size _ _ g.of_z)

pub natural : (z : ℤ) → pos 0 ≤ℤ z → z ≡ pos (nat_abs z)
natural (pos k) h = refl
natural (negsuc k) h = absurd h.le

pub sum-size : (n : Vector) → NonNegative n → n.x +ℤ n.y +ℤ n.z ≡ pos (size n)
unfolding size
sum-size n h = ap₂ ◌+ℤ◌ (ap₂ ◌+ℤ◌ (natural _ h.of_x) (natural _ h.of_y)) (natural _ h.of_z)

-- ---- a vector has one frame
same-part : (s t a b : ℤ) → IsSign s → IsSign t → pos 1 ≤ℤ a → pos 1 ≤ℤ b → s *ℤ a ≡ t *ℤ b → (s ≡ t) × (a ≡ b)
same-part s t a b (inl p) (inl q) h k e = let x = atom a in let y = atom b in (p ∙ sym q, omega (arith, parts, fact (search linear) (rw (p, q) at e)))
same-part s t a b (inl p) (inr q) h k e = let x = atom a in let y = atom b in absurd (omega (arith, parts, fact (search linear) (rw (p, q) at e)))
same-part s t a b (inr p) (inl q) h k e = let x = atom a in let y = atom b in absurd (omega (arith, parts, fact (search linear) (rw (p, q) at e)))
same-part s t a b (inr p) (inr q) h k e = let x = atom a in let y = atom b in (p ∙ sym q, omega (arith, parts, fact (search linear) (rw (p, q) at e)))

pub same-frame : (s t a b : Vector) → Signs s → Signs t → Positive a → Positive b → lay s a ≡ lay t b → (s ≡ t) × (a ≡ b)
unfolding lay
same-frame s t a b g k h j e =
    let x = same-part _ _ _ _ g.of_x k.of_x h.of_x j.of_x (ap (λ (c : Vector). c.x) e) in
    let y = same-part _ _ _ _ g.of_y k.of_y h.of_y j.of_y (ap (λ (c : Vector). c.y) e) in
    let z = same-part _ _ _ _ g.of_z k.of_z h.of_z j.of_z (ap (λ (c : Vector). c.z) e) in
    (vector-eq x.0 y.0 z.0, vector-eq x.1 y.1 z.1)
