-- One axis: minus the unit vector, and only if it does not fall its opposite. An opposite that falls is refusal 7, a point outside refusal 8.
-- Once all are asked: three level axes are refusal 7 too.
use Rattle.std.specs.Prelude.{◌≡◌, refl, Bool, true, false, not, ◌&&◌, ℕ, Err}
use Rattle.std.proofs.Common.{ap, arith}
use Rattle.rules.specs.declared.Vector.{Vector}
use Rattle.rules.specs.declared.Levels.{Levels}
use Rattle.rules.specs.declared.Refused.{Refused}
use Rattle.rules.specs.Vectors.{minus, lay, unit0}
use Rattle.rules.specs.Walk.{all_level, Probe, falls, is_level}
use Rattle.laws.specs.Tally.{Gives, then-yes, then-no, asked-yes, asked-no, ensured, not-ensured, at_once}
use Rattle.falls.specs.declared.Outside.{Outside}
use Rattle.falls.specs.declared.Falls.{Falls}
use Rattle.falls.specs.declared.Falls.TheVariants.{Fell, Kept, Stopped}
use Rattle.falls.specs.Falls.{Fallen, falls_tally, falls_looks}
use Rattle.refusals.specs.Refusals.{refusal_of}
use Rattle.facing.specs.Facing.{CornerAt}
use Rattle.start.specs.Start.{AxisAnswer, axis_told, begun, axis_refusal, levels_judged, opposite, Opposed, LevelsJudged, MinusAsked, OppositeAsked, AxisJudged}

abbrev looks_in : Refused → ℕ
looks_in r = r.looks

-- what the falls question gave, of the vector w, once its answer is known
gave : (w : Vector) {c : Probe} {u : Vector} {n : ℕ} {f : Falls} (g : Falls) → Fallen c u n f → u ≡ w → f ≡ g → Gives n (falls c w) (falls_tally g)
gave w g h a i = rw (← a, ← i) h.gives

-- ---- the opposite, from what the falls question promised
module _ {c : Probe} {e : Vector} {n : ℕ} {f : Falls} {u : Vector} (h : Fallen c u n f) (a : u ≡ lay c.signs e) where
  pub opposite-fell : {k : ℕ} {r : Refused} → f ≡ Fell k → Opposed c.apex c.signs e k r → OppositeAsked c e n (Err r)
  unfolding opposite
  opposite-fell {k} i l = record { gives = rw l.is (then-yes _ (asked-yes 0 (gave (lay c.signs e) (Fell k) h a i)) (then-no _ (not-ensured refl))); few = omega (arith, h.few, ap falls_looks i, ap looks_in l.is) }

  pub opposite-kept : {k : ℕ} → f ≡ Kept k → OppositeAsked c e n (axis_told true k)
  unfolding opposite
  opposite-kept {k} i = record { gives = then-yes _ (asked-yes 0 (gave (lay c.signs e) (Kept k) h a i)) (then-yes _ (ensured (axis_refusal c.apex c.signs e) refl) at_once); few = omega (arith, h.few, ap falls_looks i) }

  pub opposite-stopped : {o : Outside} {r : Refused} → f ≡ Stopped o → r ≡ refusal_of 8 o.place 0 o.looks → OppositeAsked c e n (Err r)
  unfolding opposite
  opposite-stopped {o} i l = record { gives = rw l (then-no _ (asked-no 0 (gave (lay c.signs e) (Stopped o) h a i))); few = omega (arith, h.few, ap falls_looks i, ap looks_in l) }

pub ruleset asking-opposite = (opposite-fell, opposite-kept, opposite-stopped)

-- ---- one axis, from what the question of minus its unit vector gave
pub minus-asked : {c : Probe} {e : Vector} {n : ℕ} {f : Falls} {u : Vector} → u ≡ lay c.signs (minus e) → Fallen c u n f → MinusAsked c e n f
minus-asked a h = record { gives = rw a at h.gives; few = h.few }

module _ {c : Probe} {e : Vector} {f : Falls} where
  pub axis-fell : {k : ℕ} → f ≡ Fell k → AxisJudged c e f (axis_told false k)
  unfolding is_level
  axis-fell i = record { gives = λ h. then-yes _ (asked-yes 0 (rw i at h.gives)) at_once; few = omega (arith, ap falls_looks i) }

  pub axis-kept : {k : ℕ} {r : AxisAnswer} → f ≡ Kept k → OppositeAsked c e k r → AxisJudged c e f r
  unfolding is_level opposite
  axis-kept i o = record { gives = λ h. then-yes _ (asked-yes 0 (rw i at h.gives)) o.gives; few = omega (arith, ap falls_looks i, o.few) }

  pub axis-stopped : {o : Outside} {r : Refused} → f ≡ Stopped o → r ≡ refusal_of 8 o.place 0 o.looks → AxisJudged c e f (Err r)
  unfolding is_level
  axis-stopped i l = record { gives = λ h. rw l (then-no _ (asked-no 0 (rw i at h.gives))); few = omega (arith, ap falls_looks i, ap looks_in l) }

pub ruleset judging-axis = (axis-fell, axis-kept, axis-stopped)

-- ---- refusal 7, at the corner
pub is-opposed : {q s e u p : Vector} {n : ℕ} {r : Refused} → u ≡ e → CornerAt q s u p → r ≡ refusal_of 7 p 0 n → Opposed q s e n r
is-opposed h i l = record { is = rw (← h, ← i.is) l }

-- ---- all three level, or not
not-all : (v : Levels) {b : Bool} → (v.x && (v.y && v.z)) ≡ b → not (all_level v) ≡ not b
unfolding all_level
not-all v e = ap not e

module _ {q s : Vector} (v : Levels) {n : ℕ} where
  pub judged-level : {r : Refused} → (v.x && (v.y && v.z)) ≡ true → Opposed q s unit0 n r → LevelsJudged q s v n (Err r)
  unfolding levels_judged
  judged-level t l = record { gives = rw l.is (then-no _ (not-ensured (not-all v t))); few = omega (arith, ap looks_in l.is) }

  pub judged-begun : (v.x && (v.y && v.z)) ≡ false → LevelsJudged q s v n (begun v n)
  unfolding levels_judged
  judged-begun t = record { gives = then-yes _ (ensured (axis_refusal q s unit0) (not-all v t)) at_once; few = omega arith }
