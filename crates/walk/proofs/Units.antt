-- The unit vectors laid in: laid back they are the unit vectors, and the rank of one is a sign times a part of the ranks.
use Rattle.std.specs.Prelude.{◌≡◌, refl, List, [], ◌∷◌, ℕ, ℤ, pos, ◌*ℤ◌}
use Rattle.std.proofs.Common.{sym, ap, ◌∙◌, lit≤, SFits}
use Rattle.std.specs.Int.{w32}
use Rattle.integers.specs.Machine.{machine, fits, value}
use Rattle.integers.specs.Sizes.{Within, within_wider}
use Rattle.integers.specs.Reify.{byring, sides}
use Rattle.rules.specs.declared.Vector.{Vector}
use Rattle.rules.specs.declared.Axis.{Axis}
use Rattle.rules.specs.declared.Axis.TheVariants.{Axis0 as axis0, Axis1 as axis1, Axis2 as axis2}
use Rattle.rules.specs.Vectors.{vector, dot, lay}
use Rattle.rules.specs.Walk.{triangle, unit}
use Rattle.laws.specs.Parts.{part, part_of, part-lay, dot-unit}
use Rattle.laws.specs.Frames.{IsSign, Signs, lay-lay, lay-dot}
use Rattle.laws.specs.Bounds.{Bounded}
use Rattle.axis.specs.Along.{part-within}
use Rattle.falls.specs.declared.Scene.{Scene}
use Rattle.falls.specs.Scene.{Ready}
use Rattle.falls.specs.Sizes.{sign-bounded, scene-ranks}
use Rattle.choice.specs.Numbers.{from_bits}
use Rattle.round.specs.declared.Corner.{Corner}
use Rattle.round.specs.Corners.{corner}
use Rattle.walk.specs.Walk.{IsUnit, Units}

-- ---- as the code computes
module _ {a b : ℤ} (s : IsSign a) (h : Within 65536 b) where
  pub product-fits : SFits w32 (from_bits a *ℤ from_bits b)
  product-fits = let k = sign-bounded a s in fits (search machine depth 30 fits 5000) tt

  product-read : from_bits (from_bits a *ℤ from_bits b) ≡ a *ℤ b
  product-read = let k = sign-bounded a s in value (search machine depth 30 fits 5000) tt

sign-read : {a : ℤ} → IsSign a → from_bits a ≡ a
sign-read {a} s = let k = sign-bounded a s in value (search machine depth 30 fits 5000) tt

-- ---- one of them
rank-of-unit : (s r : Vector) (k : Axis) → part k s *ℤ part k r ≡ dot r (lay s (unit k))
rank-of-unit s r k = sym (part-lay k s r) ∙ sym (dot-unit (lay s r) k) ∙ lay-dot s r (unit k)

once : (a : ℤ) → a ≡ a *ℤ pos 1
once a = byring (a ∷ []) (search sides depth 40 fits 5000) tt

never : (a : ℤ) → pos 0 ≡ a *ℤ pos 0
never a = byring (a ∷ []) (search sides depth 40 fits 5000) tt

module _ {s r : Vector} (k : Axis) {u : Vector} {z : ℤ} (e : u ≡ lay s (unit k)) (q : z ≡ part k s *ℤ part k r) where
  is-unit : IsUnit s r k (record { at = u; rank = z })
  is-unit = record { is = e; ranked = q ∙ rank-of-unit s r k ∙ ap (dot r) (sym e) }

-- of any axis, for what computes one of them by itself
module _ {s r : Vector} {a b : ℤ} (g : Signs s) (h : Bounded 65536 r) (k : Axis) (p : a ≡ part k s) (q : b ≡ part k r) where
  sign : IsSign a
  sign = rw p (part_of g k)

  small : Within 65536 b
  small = rw q (part-within h k)

  pub rank-fits : SFits w32 (from_bits a *ℤ from_bits b)
  rank-fits = product-fits sign small

  pub unit-made : {u v : Vector} → u ≡ unit k → v ≡ lay s u → IsUnit s r k (record { at = v; rank = from_bits (from_bits a *ℤ from_bits b) })
  unit-made e f = is-unit k (f ∙ ap (lay s) e) (product-read sign small ∙ rw (p, q) refl)

-- ---- all of them
pub units-made : {s r : Vector} {a b c : Corner} → Signs s → IsUnit s r axis0 a → IsUnit s r axis1 b → IsUnit s r axis2 c → Units s r (a ∷ b ∷ c ∷ [])
units-made {s} g x y z = record {
  are = λ i. triangle (at_unit x i) (at_unit y i) (at_unit z i);
  ranked = record { rank0 = x.ranked; rank1 = y.ranked; rank2 = z.ranked };
  whole = refl;
}
  where
    at_unit : {r : Vector} {k : Axis} {a : Corner} → IsUnit s r k a → lay s a.at ≡ unit k
    at_unit {k = k} h = ap (lay s) h.is ∙ lay-lay s (unit k) g

pub vectors-made : {s r : Vector} → Signs s → Bounded 65536 r
    → Units s r (corner (vector (from_bits s.x) (pos 0) (pos 0)) (from_bits (from_bits s.x *ℤ from_bits r.x))
    ∷ corner (vector (pos 0) (from_bits s.y) (pos 0)) (from_bits (from_bits s.y *ℤ from_bits r.y))
    ∷ corner (vector (pos 0) (pos 0) (from_bits s.z)) (from_bits (from_bits s.z *ℤ from_bits r.z)) ∷ [])
unfolding lay
vectors-made {s} {r} g h =
    units-made g
    (unit-made g h axis0 refl refl refl (λ i. vector ((sign-read g.of_x ∙ once s.x) i) (never s.y i) (never s.z i)))
    (unit-made g h axis1 refl refl refl (λ i. vector (never s.x i) ((sign-read g.of_y ∙ once s.y) i) (never s.z i)))
    (unit-made g h axis2 refl refl refl (λ i. vector (never s.x i) (never s.y i) ((sign-read g.of_z ∙ once s.z) i)))

-- ---- what a scene has of them
pub scene-fits : {v : Scene} {bytes : List ℕ} → Ready v bytes → Signs v.signs × Bounded 65536 v.grid.ranks
scene-fits h = let g = scene-ranks h in (h.signed, record { in-x = within_wider g.in-x (lit≤ tt); in-y = within_wider g.in-y (lit≤ tt); in-z = g.in-z })
