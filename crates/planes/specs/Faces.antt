-- The triangle of every accepted answer, of a pick, a walk from a ready start or a quick touch, is a face: determinant 1 in the frame, and flat along its level axes.
use Rattle.std.specs.Prelude.{◌≡◌, refl, not, [], ◌∷◌, ℕ, T, ℤ, pos, ◌*ℤ◌}
use Rattle.std.proofs.Common.{sym, subst, ◌∙◌, inl, inr}
use Rattle.std.proofs.Math.Path.{ap}
use Rattle.integers.specs.Reify.{byring, sides}
use Rattle.rules.specs.declared.Vector.{Vector}
use Rattle.rules.specs.declared.Levels.{Levels}
use Rattle.rules.specs.declared.Triangle.{Triangle}
use Rattle.rules.specs.Vectors.{dot, cross, det, lay}
use Rattle.rules.specs.declared.Axis.{Axis}
use Rattle.rules.specs.Walk.{unit, vector_of, level, all_level, Probe, Found, laid, found}
use Rattle.rules.specs.Lean.{levels_of}
use Rattle.laws.specs.Parts.{part, dot-unit}
use Rattle.laws.specs.Triples.{det_of, of12}
use Rattle.laws.specs.Frames.{IsSign, Signs, lay-lay, lay-dot}
use Rattle.laws.specs.Rounds.{WalkFound}
use Rattle.laws.specs.Answers.{laid_of, found-determinant, found-levels, found-stays}
use Rattle.laws.proofs.Answers.{found-products}
use Rattle.planes.specs.Turn.{Face}

-- ---- the determinant of a triangle that is laid in
det-laid : (s : Vector) (m : Triangle) → det_of (laid s m) ≡ s.x *ℤ s.y *ℤ s.z *ℤ det_of m
unfolding det dot cross lay
det-laid s m = byring (of12 m s) (search sides depth 40 fits 5000) tt

pub sign-square : {s : ℤ} → IsSign s → s *ℤ s ≡ pos 1
sign-square (inl e) = rw e refl
sign-square (inr e) = rw e refl

squares : (x y z d : ℤ) → (x *ℤ y *ℤ z *ℤ d) *ℤ (x *ℤ y *ℤ z *ℤ d) ≡ (x *ℤ x) *ℤ (y *ℤ y) *ℤ (z *ℤ z) *ℤ (d *ℤ d)
squares x y z d = byring (x ∷ y ∷ z ∷ d ∷ []) (search sides depth 40 fits 5000) tt

ones : (d : ℤ) → pos 1 *ℤ pos 1 *ℤ pos 1 *ℤ d ≡ d
ones d = byring (d ∷ []) (search sides depth 40 fits 5000) tt

unimodular : (s : Vector) (m : Triangle) → Signs s → det_of (laid s m) ≡ pos 1 → det_of m *ℤ det_of m ≡ pos 1
unimodular s m g e =
    sym (rw (det-laid s m, squares s.x s.y s.z (det_of m), sign-square g.of_x, sign-square g.of_y, sign-square g.of_z) (ones (det_of m *ℤ det_of m))) ∙ ap (λ z. z *ℤ z) e

-- ---- the face
module _ {c : Probe} {R : ℕ} {v : Levels} {f : Found} (h : WalkFound c R v f) (g : Signs c.signs) where
  abbrev s : Vector
  s = c.signs

  abbrev m : Triangle
  m = h.at.0

  pub found-vector : (k : Axis) → vector_of f.triangle k ≡ lay c.signs (vector_of h.at.0 k)
  unfolding found
  found-vector k = ap (λ (f : Found). vector_of f.triangle k) h.is ∙ laid_of s m k

  laid-dot : (a b : Vector) → dot (lay s a) (lay s b) ≡ dot a b
  laid-dot a b = lay-dot s a (lay s b) ∙ ap (dot a) (lay-lay s b g)

  straight : (k : Axis) → T (level (levels_of f.normal) k) → (j : Axis) → dot (vector_of f.triangle j) (vector_of f.triangle k) ≡ part k (unit j)
  straight k t j =
      let flat = h.end.flat k (subst (λ (v : Levels). T (level v k)) (sym (found-levels h g)) t) in
      rw (found-vector j, found-vector k) (laid-dot (vector_of m j) (vector_of m k)) ∙ ap (dot (vector_of m j)) ((flat k).own refl) ∙ dot-unit (vector_of m j) k ∙ (flat j).part-is

  pub found-face : T (not (all_level v)) → Face c.signs (levels_of f.normal) f.normal f.triangle
  found-face t = record {
    unimodular = unimodular s f.triangle g (found-determinant h g);
    products = found-products h g;
    stays = found-stays h g;
    straight = straight;
    some = subst (λ (v : Levels). T (not (all_level v))) (found-levels h g) t;
  }
