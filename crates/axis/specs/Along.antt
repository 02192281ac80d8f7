-- Along an axis: a vector with another part there is the vector and a multiple of the unit vector, and a sign lays the unit vector in.
use Rattle.std.specs.Prelude.{◌≡◌, refl, [], ◌∷◌, ℕ, ℤ, pos, neg_ℤ, ◌+ℤ◌, ◌-ℤ◌, ◌*ℤ◌}
use Rattle.std.proofs.Common.{sym, ap, ◌∙◌, rules}
use Rattle.integers.specs.Reify.{byring, sides}
use Rattle.integers.specs.Sizes.{Within}
use Rattle.rules.specs.declared.Vector.{Vector}
use Rattle.rules.specs.Vectors.{◌⊕◌, ◌⊖◌, minus, scale, dot, lay}
use Rattle.rules.specs.declared.Axis.{Axis}
use Rattle.rules.specs.declared.Axis.TheVariants.{Axis0 as axis0, Axis1 as axis1, Axis2 as axis2}
use Rattle.rules.specs.Walk.{unit}
use Rattle.laws.specs.Bounds.{Bounded}
use Rattle.laws.specs.Frames.{lay-minus}
use Rattle.laws.specs.Parts.{part, part-minus, part-scale, vector-by-parts, vector-eq, dot-scale, dot-unit}
use Rattle.axis.specs.Axes.{with_part}

pub unit-bounded : (k : Axis) → Bounded 1 (unit k)
unit-bounded axis0 = search rules
unit-bounded axis1 = search rules
unit-bounded axis2 = search rules

pub part-within : {n : ℕ} {a : Vector} → Bounded n a → (k : Axis) → Within n (part k a)
part-within h axis0 = h.in-x
part-within h axis1 = h.in-y
part-within h axis2 = h.in-z

pub part-with : (q : Vector) (k : Axis) (z : ℤ) → part k (with_part q k z) ≡ z
part-with q axis0 z = refl
part-with q axis1 z = refl
part-with q axis2 z = refl

-- ---- identities of the parts
stays : (x l : ℤ) → x ≡ x +ℤ l *ℤ pos 0
stays x l = byring (x ∷ l ∷ []) (search sides depth 40 fits 5000) tt

moves : (x l : ℤ) → x +ℤ l ≡ x +ℤ l *ℤ pos 1
moves x l = byring (x ∷ l ∷ []) (search sides depth 40 fits 5000) tt

-- ---- a point along an axis
pub along-axis : (q : Vector) (k : Axis) (l : ℤ) → with_part q k (part k q +ℤ l) ≡ q ⊕ scale l (unit k)
unfolding ◌⊕◌ scale
along-axis q axis0 l = vector-eq (moves q.x l) (stays q.y l) (stays q.z l)
along-axis q axis1 l = vector-eq (stays q.x l) (moves q.y l) (stays q.z l)
along-axis q axis2 l = vector-eq (stays q.x l) (stays q.y l) (moves q.z l)

-- twice as far from q
stands : (x : ℤ) → x ≡ x +ℤ (x -ℤ x)
stands x = byring (x ∷ []) (search sides depth 40 fits 5000) tt

pub twice-along : (q : Vector) (k : Axis) (z : ℤ) → with_part q k (z +ℤ (z -ℤ part k q)) ≡ with_part q k z ⊕ (with_part q k z ⊖ q)
unfolding ◌⊕◌ ◌⊖◌
twice-along q axis0 z = vector-eq refl (stands q.y) (stands q.z)
twice-along q axis1 z = vector-eq (stands q.x) refl (stands q.z)
twice-along q axis2 z = vector-eq (stands q.x) (stands q.y) refl

-- ---- the unit vector, laid in and turned
none : (x y : ℤ) → x *ℤ pos 0 ≡ y *ℤ pos 0
none x y = byring (x ∷ y ∷ []) (search sides depth 40 fits 5000) tt

pub laid-along : (s : Vector) (k : Axis) → scale (part k s) (unit k) ≡ lay s (unit k)
unfolding scale lay
laid-along s axis0 = vector-eq refl (none s.x s.y) (none s.x s.z)
laid-along s axis1 = vector-eq (none s.y s.x) refl (none s.y s.z)
laid-along s axis2 = vector-eq (none s.z s.x) (none s.z s.y) refl

pub turned-along : (u : Vector) (z : ℤ) → scale (neg_ℤ z) u ≡ minus (scale z u)
turned-along u z = vector-by-parts (λ k. simp (part-minus, part-scale) (byring (part k u ∷ z ∷ []) (search sides depth 40 fits 5000) tt))

pub laid-back : (s : Vector) (k : Axis) → scale (neg_ℤ (part k s)) (unit k) ≡ lay s (minus (unit k))
laid-back s k = turned-along (unit k) (part k s) ∙ ap minus (laid-along s k) ∙ sym (lay-minus s (unit k))

-- ---- a product along an axis
pub dot-along : (r : Vector) (k : Axis) (z : ℤ) → z *ℤ part k r ≡ dot r (scale z (unit k))
dot-along r k z = sym (dot-scale r (unit k) z ∙ ap (λ (x : ℤ). z *ℤ x) (dot-unit r k))
