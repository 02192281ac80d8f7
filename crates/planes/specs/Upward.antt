-- The lean is less than a right angle: minus each remaining unit vector fell, so ν has a part in the frame's direction there, and so has the normal; along the level axes the normal has none.
use Rattle.std.specs.Prelude.{◌≡◌, refl, Bool, true, false, not, List, [], ◌∷◌, ℕ, T, ℤ, pos, negsuc, neg_ℤ, ◌+ℤ◌, ◌-ℤ◌, ◌*ℤ◌, ◌≤ℤ◌, ◌<ℤ◌}
use Rattle.std.proofs.Common.{sym, ap, subst, ◌∙◌, inl, inr, arith}
use Rattle.std.proofs.lemmas.Bool.{false≢true}
use Rattle.std.specs.Int.Signed.{lt_z_yes}
use Rattle.integers.specs.Reify.{byring, sides}
use Rattle.integers.specs.Order.{parts, linear, atom, goal, fact}
use Rattle.rules.specs.declared.Vector.{Vector}
use Rattle.rules.specs.declared.Look.TheVariants.{Filled}
use Rattle.rules.specs.declared.Levels.{Levels}
use Rattle.rules.specs.Vectors.{minus, scale, dot, lay}
use Rattle.rules.specs.declared.Axis.{Axis}
use Rattle.rules.specs.declared.Axis.TheVariants.{Axis0 as axis0, Axis1 as axis1, Axis2 as axis2}
use Rattle.rules.specs.Walk.{unit, level, all_level, Probe, Found}
use Rattle.rules.specs.Lean.{is_zero}
use Rattle.laws.specs.Parts.{part, dot-sum, dot-scale, dot-minus, dot-unit}
use Rattle.laws.specs.Levels.{remains, remaining-count, some-remain, is-zero, levels-of}
use Rattle.laws.specs.Frames.{Signs, lay-lay, lay-dot, lay-minus, lay-part-zero, lay-part-high}
use Rattle.laws.specs.Looks.{FellAt}
use Rattle.laws.specs.Axes.{FellAlong}
use Rattle.laws.specs.Picks.{Accepting}
use Rattle.laws.specs.Answers.{found-signs, found-levels}
use Rattle.planes.specs.Orders.{at_most, rest, ◌and◌, ◌by◌}

-- ---- a vector that fell goes down
goes_down : (l : ℕ) (d e t : ℤ) → (e +ℤ pos l *ℤ d) <ℤ t → t ≤ℤ e → d <ℤ pos 0
goes_down l (pos k) e t h i = let a = atom e in let b = atom t in absurd (omega (arith, parts, fact (search linear) h))
goes_down l (negsuc k) e t h i = lt_z_yes tt

module _ (c : Probe) (ν : Vector) (t : ℤ) (below : (v : Vector) → c.look v ≡ Filled → dot ν v <ℤ t) (above : t ≤ℤ dot ν c.apex) where
  fell-down : (u : Vector) (ls : List ℕ) → FellAt c u ls true → dot ν u <ℤ pos 0
  fell-down u [] f = absurd f
  fell-down u (l ∷ ls) (inl k) = goes_down l (dot ν u) (dot ν c.apex) t (rw (dot-sum ν c.apex (scale (pos l) u), dot-scale ν u (pos l)) at (below _ k)) above
  fell-down u (l ∷ ls) (inr f) = fell-down u ls f.1

  -- so ν has at least 1 in the frame along an axis that remains
  axis-up : (k : Axis) (b : Bool) → FellAlong c (unit k) b → b ≡ false → pos 1 ≤ℤ part k (lay c.signs ν)
  axis-up k true f e = absurd (false≢true (sym e))
  axis-up k false f e =
      let h : neg_ℤ (dot ν (lay c.signs (unit k))) <ℤ pos 0 = rw (lay-minus c.signs (unit k), dot-minus ν (lay c.signs (unit k))) at (fell-down (lay c.signs (minus (unit k))) c.powers f) in
      let is : dot ν (lay c.signs (unit k)) ≡ part k (lay c.signs ν) = sym (lay-dot c.signs ν (unit k)) ∙ dot-unit (lay c.signs ν) k in
      rw (← is) (let z = atom (dot ν (lay c.signs (unit k))) in omega (arith, parts, fact (search linear) h))

-- ---- the product of two vectors that are both upward along the remaining axes, one of them 0 along the others
pub part-high : (b : Bool) (x y : ℤ) → (b ≡ false → pos 1 ≤ℤ x) → (b ≡ true → y ≡ pos 0) → (b ≡ false → pos 1 ≤ℤ y) → pos (remains b) ≤ℤ (x *ℤ y)
part-high true x y h e k = rw (e refl) (let a = atom x in goal (search linear) (omega arith))
part-high false x y h e k = at_most ((x -ℤ pos 1) *ℤ (y -ℤ pos 1) +ℤ (x -ℤ pos 1) +ℤ (y -ℤ pos 1)) (rest (h refl) by rest (k refl) and rest (h refl) and rest (k refl)) (byring (x ∷ y ∷ []) (search sides depth 40 fits 5000) tt)

pub sum-high : (v : Levels) → T (not (all_level v)) → (f : Axis → ℤ) → ((k : Axis) → pos (remains (level v k)) ≤ℤ f k) → pos 0 <ℤ (f axis0 +ℤ f axis1 +ℤ f axis2)
sum-high v t f h =
    let x = atom (f axis0) in let y = atom (f axis1) in let z = atom (f axis2) in
    goal (search linear) (omega (arith, parts, h axis0, h axis1, h axis2, some-remain v t, remaining-count v))

parts-high : (v : Levels) (a b : Vector) → T (not (all_level v)) → ((k : Axis) → pos (remains (level v k)) ≤ℤ (part k a *ℤ part k b)) → pos 0 <ℤ dot a b
unfolding dot
parts-high v a b t h = sum-high v t (λ k. part k a *ℤ part k b) h

-- ---- an accepted pick
module _ {c : Probe} {R : ℕ} {f : Found} (h : Accepting c R f) (g : Signs c.signs) (ν : Vector) (t : ℤ) (below : (v : Vector) → c.look v ≡ Filled → dot ν v <ℤ t) (above : t ≤ℤ dot ν c.apex) where
  abbrev s : Vector
  s = c.signs

  abbrev v : Levels
  v = h.level

  level-is : (k : Axis) → level v k ≡ is_zero (part k f.normal)
  level-is k = ap (λ (v : Levels). level v k) (found-levels h.walked g) ∙ levels-of f.normal k

  no_part : (k : Axis) → level v k ≡ true → part k (lay s f.normal) ≡ pos 0
  no_part k e = is-zero _ (lay-part-zero s f.normal g k ∙ sym (level-is k) ∙ e)

  a-part : (k : Axis) → level v k ≡ false → pos 1 ≤ℤ part k (lay s f.normal)
  a-part k e = lay-part-high s f.normal g (found-signs h.walked g) k (sym (level-is k) ∙ e)

  pub leans-upward : pos 0 <ℤ dot ν f.normal
  leans-upward =
      subst (λ z. pos 0 <ℤ z) (lay-dot s ν (lay s f.normal) ∙ ap (dot ν) (lay-lay s f.normal g))
      (parts-high v (lay s ν) (lay s f.normal) h.asked.some (λ k. part-high (level v k) _ _ (axis-up c ν t below above k (level v k) (h.asked.axis k).fell) (no_part k) (a-part k)))
