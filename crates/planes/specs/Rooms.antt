-- What a pick with room needs: the ways of its footing lie in the normal's plane, and what lies between two points of the box lies in it.
use Rattle.std.specs.Prelude.{◌≡◌, refl, ◌⊎◌, true, not, List, [], ◌∷◌, ℕ, T, ℤ, pos, neg_ℤ, ◌+ℤ◌, ◌-ℤ◌, ◌*ℤ◌, ◌≤ℤ◌, ◌<ℤ◌}
use Rattle.std.proofs.Common.{sym, ap, ◌∙◌, inl, inr, arith}
use Rattle.std.specs.Int.Signed.{le_z, lt_z}
use Rattle.std.proofs.Math.Facts.{yes_and}
use Rattle.integers.specs.Reify.{byring, sides}
use Rattle.integers.specs.Order.{parts}
use Rattle.rules.specs.declared.Vector.{Vector}
use Rattle.rules.specs.declared.Solid.{Solid}
use Rattle.rules.specs.declared.Look.TheVariants.{Filled}
use Rattle.rules.specs.declared.Levels.{Levels}
use Rattle.rules.specs.declared.Triangle.{Triangle}
use Rattle.rules.specs.Vectors.{◌⊕◌, scale, dot, lay}
use Rattle.rules.specs.Solids.{in_side, box, in_box, filled, look}
use Rattle.rules.specs.declared.Axis.{Axis}
use Rattle.rules.specs.Walk.{unit, vector_of, from, to, first, second, level}
use Rattle.rules.specs.declared.Way.{Way}
use Rattle.rules.specs.declared.Way.TheVariants.{Sideways as sideways, Along as along, Against as against}
use Rattle.rules.specs.Firm.{belongs, way_of}
use Rattle.laws.specs.Tests.{is_true, is-not, compared}
use Rattle.laws.specs.Parts.{dot-difference, dot-minus}
use Rattle.laws.specs.Frames.{lay-minus}
use Rattle.laws.specs.Levels.{from-remains, to-remains}
use Rattle.laws.specs.Flat.{product}
use Rattle.range.specs.Ranges.{InSide, in-sides}
use Rattle.planes.specs.Orders.{at_most, less_by, rest, rest-less, same_rest, ◌and◌, ◌by◌}
use Rattle.planes.specs.Turn.{Face}

-- ---- the ways lie in the plane
module _ {s : Vector} {v : Levels} {n : Vector} {m : Triangle} (face : Face s v n m) where
  not-level : (k : Axis) → T (not (level v k)) → dot n (vector_of m k) ≡ pos 1
  not-level k t = face.products k ∙ ap product (is-not (level v k) t)

  is-level : (k : Axis) → T (level v k) → dot n (lay s (unit k)) ≡ pos 0
  is-level k t = ap (dot n) (sym (face.stays k t)) ∙ face.products k ∙ ap product (is_true (level v k) t)

  pub in-plane : (w : Way) → T (belongs v w) → dot n (way_of s m w) ≡ pos 0
  in-plane (sideways x) t = dot-difference n (second m x) (first m x) ∙ rw (not-level (to x) (to-remains v x t), not-level (from x) (from-remains v x t)) refl
  in-plane (along k) t = is-level k t
  in-plane (against k) t = ap (dot n) (lay-minus s (unit k)) ∙ dot-minus n (lay s (unit k)) ∙ ap neg_ℤ (is-level k t)

-- and the box has no hollows: what lies between two of its points lies in it
not_negative : (L x : ℤ) → pos 1 ≤ℤ L → pos 0 ≤ℤ (L *ℤ x) → pos 0 ≤ℤ x
not_negative L x one h = go (compared x (pos 0))
  where
    go : (x <ℤ pos 0) ⊎ (pos 0 ≤ℤ x) → pos 0 ≤ℤ x
    go (inr k) = k
    go (inl k) =
        let high : pos 0 ≤ℤ L = omega (arith, parts) in
        let none : L ≤ℤ pos 0 = at_most (L *ℤ x +ℤ L *ℤ (pos 0 -ℤ x -ℤ pos 1)) (h and high by rest-less k) (byring (L ∷ x ∷ []) (search sides depth 40 fits 5000) tt) in
        absurd (omega (arith, parts))

between-side : (side p u l L : ℤ) → pos 1 ≤ℤ L → pos 0 ≤ℤ l → l ≤ℤ L → InSide side p → InSide side (p +ℤ L *ℤ u) → InSide side (p +ℤ l *ℤ u)
between-side side p u l L one up few i j = record {
  low = not_negative L (p +ℤ l *ℤ u) one (same_rest (byring (p ∷ u ∷ l ∷ L ∷ []) (search sides depth 40 fits 5000) tt) (rest few by i.low and up by j.low));
  below =
      let k = not_negative L (side -ℤ (p +ℤ l *ℤ u) -ℤ pos 1) one (same_rest (byring (side ∷ p ∷ u ∷ l ∷ L ∷ []) (search sides depth 40 fits 5000) tt) (rest few by rest-less i.below and up by rest-less j.below)) in
      less_by (side -ℤ (p +ℤ l *ℤ u) -ℤ pos 1) k (byring (side ∷ p ∷ u ∷ l ∷ []) (search sides depth 40 fits 5000) tt);
}

in-side : {side x : ℤ} → InSide side x → T (in_side side x)
in-side {side} {x} i = yes_and (le_z (pos 0) x) (lt_z x side) i.low.le i.below.lt

pub between-box : (sides p u : Vector) (l L : ℤ) → pos 1 ≤ℤ L → pos 0 ≤ℤ l → l ≤ℤ L → T (in_box sides p) → T (in_box sides (p ⊕ scale L u)) → T (in_box sides (p ⊕ scale l u))
unfolding in_box ◌⊕◌ scale
between-box sides p u l L one up few i j =
    let a = in-sides sides p i in let b = in-sides sides (p ⊕ scale L u) j in
    yes_and (in_side sides.x (p.x +ℤ l *ℤ u.x)) _ (in-side (between-side sides.x p.x u.x l L one up few a.of-x b.of-x))
    (yes_and (in_side sides.y (p.y +ℤ l *ℤ u.y)) _ (in-side (between-side sides.y p.y u.y l L one up few a.of-y b.of-y)) (in-side (between-side sides.z p.z u.z l L one up few a.of-z b.of-z)))

-- ---- a voxel of the box that is filled
pub look-filled : (solid : Solid) (bytes : List ℕ) (u : Vector) → T (in_box (box solid) u) → filled solid bytes u ≡ true → look solid bytes u ≡ Filled
unfolding look
look-filled solid bytes u i f = rw (is_true (in_box (box solid) u) i, f) refl
