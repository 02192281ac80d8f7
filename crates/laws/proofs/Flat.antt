-- The levelled normal of a flat triangle of determinant 1 has product 0 with the level vectors and 1 with the others.
use Rattle.std.specs.Prelude.{◌≡◌, refl, pos, ◌-ℤ◌, ◌*ℤ◌}
use Rattle.std.proofs.Common.{sym, ap, ◌∙◌}
use Rattle.rules.specs.declared.Levels.{Levels}
use Rattle.rules.specs.declared.Triangle.{Triangle}
use Rattle.rules.specs.Vectors.{dot}
use Rattle.rules.specs.declared.Axis.{Axis}
use Rattle.rules.specs.Walk.{unit, vector_of, level, levelled, normal}
use Rattle.laws.specs.Parts.{part, dot-unit}
use Rattle.laws.specs.Triples.{all_of, det_of, normal-dot}
use Rattle.laws.specs.Flat.{Flat, is_one, product, levelled-along, over-unit, part-along, product_is}

module _ (v : Levels) (m : Triangle) (f : Flat v m) where
  -- on every solid: 0 with the level vectors and 1 with the others
  pub levelled-dot : det_of m ≡ pos 1 → (j : Axis) → dot (levelled v (normal m)) (vector_of m j) ≡ product (level v j)
  levelled-dot d j =
      levelled-along v (normal m) (vector_of m j) (unit j) (part-along v m f j)
      ∙ ap (λ z. dot (normal m) (vector_of m j) -ℤ z) (over-unit (λ k. is_one (level v k) *ℤ part k (normal m)) j)
      ∙ product_is v m f (level v j) (part j (normal m)) (dot (normal m) (vector_of m j)) (all_of (normal-dot m) j ∙ d) (λ e. sym (dot-unit (normal m) j) ∙ ap (dot (normal m)) (sym ((f j e j).own refl)))
