-- The pick's answer: what is said of the question holds of its two cases. An accepted record's level axes are those along which its normal's part is 0.
use Rattle.std.specs.Prelude.{◌≡◌, refl, Bool, true, false, List, ℕ, ◌+◌, ◌-◌, ◌≤◌, T, length, ℤ, pos, ◌≤ℤ◌}
use Rattle.std.proofs.Common.{sym, subst, ◌∙◌, arith}
use Rattle.std.proofs.Math.Path.{ap}
use Rattle.integers.specs.Order.{parts}
use Rattle.rules.specs.declared.Vector.{Vector}
use Rattle.rules.specs.declared.Levels.{Levels}
use Rattle.rules.specs.declared.Triangle.{Triangle}
use Rattle.rules.specs.declared.Accepted.{Accepted as AcceptedPick}
use Rattle.rules.specs.declared.Refused.{Refused as RefusedPick}
use Rattle.rules.specs.Answers.{Pick}
use Rattle.std.specs.Prelude.{Ok as Accepted, Err as Refused}
use Rattle.rules.specs.Vectors.{lay}
use Rattle.rules.specs.Asked.{Asked, answered, refused}
use Rattle.rules.specs.declared.Axis.{Axis}
use Rattle.rules.specs.declared.Axis.TheVariants.{Axis0 as axis0, Axis1 as axis1, Axis2 as axis2}
use Rattle.rules.specs.Walk.{Stop, stop, unit, vector_of, level, remaining, unless_level, levelled, normal, Probe, Found, laid, found}
use Rattle.rules.specs.Pick.{accepted_answer, answer}
use Rattle.rules.specs.TwoCalls.{answer_from}
use Rattle.rules.specs.Lean.{is_zero, levels_of}
use Rattle.laws.specs.Parts.{NonNegative, part, part_of, parts-by}
use Rattle.laws.specs.Triples.{det_of}
use Rattle.laws.specs.Levels.{above_zero, levels-of, levels-eq, part-levelled}
use Rattle.laws.specs.Tame.{tame-normal}
use Rattle.laws.specs.Says.{Says}
use Rattle.laws.specs.Answered.{voxels_of}
use Rattle.laws.specs.Frames.{Signs, lay-lay, lay-part-zero}
use Rattle.laws.specs.Rounds.{WalkFound}

pub laid_of : (s : Vector) (m : Triangle) (k : Axis) → vector_of (laid s m) k ≡ lay s (vector_of m k)
laid_of s m axis0 = refl
laid_of s m axis1 = refl
laid_of s m axis2 = refl

abbrev pub steps_of : Pick → ℕ
steps_of (Accepted a) = a.steps
steps_of (Refused r) = r.steps

abbrev pub looks_of : Pick → ℕ
looks_of (Accepted a) = a.looks
looks_of (Refused r) = r.looks

-- the answer without its looks
abbrev pub found_of : AcceptedPick → Found
found_of a = record { normal = a.normal; triangle = a.triangle; apex = a.apex; steps = a.steps }

abbrev pub stop_of : RefusedPick → Stop
stop_of r = stop r.number r.place r.steps

-- with the voxels that were looked at, and the looks that they count
abbrev pub CountedSays : (List Vector → ℕ) → (Found → List Vector → Type 0) → (Stop → List Vector → Type 0) → Pick → Type 0
CountedSays count Q F (Accepted a) = (t : List Vector) × Q (found_of a) t × (a.looks ≡ count t)
CountedSays count Q F (Refused r) = (t : List Vector) × F (stop_of r) t × (r.looks ≡ count t)

abbrev pub AnswerSays : (Found → List Vector → Type 0) → (Stop → List Vector → Type 0) → Pick → Type 0
AnswerSays = CountedSays length

pub answer-says : (Q : Found → List Vector → Type 0) (F : Stop → List Vector → Type 0) (x : Asked Stop Found) → Says Q F x → AnswerSays Q F (answer x)
unfolding answer
answer-says Q F (answered f t) h = (t, h.of, refl)
answer-says Q F (refused r t) h = (t, h.of, refl)

-- counted on from n looks
pub answer-from-says : (n : ℕ) (Q : Found → List Vector → Type 0) (F : Stop → List Vector → Type 0) (x : Asked Stop Found) → Says Q F x → CountedSays (λ t. n + length t) Q F (answer_from n x)
unfolding answer_from
answer-from-says n Q F (answered f t) h = (t, h.of, refl)
answer-from-says n Q F (refused r t) h = (t, h.of, refl)

-- the answer's looks count the voxels
pub voxels-counted : (x : Asked Stop Found) → looks_of (answer x) ≡ length (voxels_of x)
unfolding answer
voxels-counted (answered f t) = refl
voxels-counted (refused r t) = refl

-- an accepted record is what the question answered, with its looks counted
pub accepted-answer : (x : Asked Stop Found) {a : AcceptedPick} → answer x ≡ Accepted a → x ≡ answered (found_of a) (voxels_of x)
unfolding answer
accepted-answer (answered f t) {a} e =
    let is : accepted_answer f (length t) ≡ a = cc in
    ap (λ (a : AcceptedPick). answered (found_of a) t) is
accepted-answer (refused r t) e = absurd (let z : ◌≡◌ {A = ℕ} 0 1 = cc in omega arith)

-- ---- what an accepted record holds
-- a part that is 0, or at least 1
abbrev PartAs : Bool → ℤ → Type 0
PartAs true z = z ≡ pos 0
PartAs false z = pos 1 ≤ℤ z

part-as : (b : Bool) (z : ℤ) → pos 1 ≤ℤ z → PartAs b (unless_level b z)
part-as true z h = refl
part-as false z h = h

as-zero : (b : Bool) (z : ℤ) → PartAs b z → b ≡ is_zero z
as-zero true z h = rw h refl
as-zero false z h = sym (above_zero z h)

as-upward : (b : Bool) (z : ℤ) → PartAs b z → pos 0 ≤ℤ z
as-upward true z h = omega (arith, parts, h)
as-upward false z h = omega (arith, parts, h)

module _ {c : Probe} {R : ℕ} {v : Levels} {f : Found} (h : WalkFound c R v f) where
  abbrev s : Vector
  s = c.signs

  abbrev m : Triangle
  m = h.at.0

  pub found-triangle : f.triangle ≡ laid c.signs h.at.0
  unfolding found
  found-triangle = ap (λ (f : Found). f.triangle) h.is

  pub found-normal : f.normal ≡ lay s (levelled v (normal h.at.0))
  unfolding found
  found-normal = ap (λ (f : Found). f.normal) h.is

  pub found-determinant : Signs c.signs → det_of (laid c.signs f.triangle) ≡ pos 1
  found-determinant g = rw found-triangle (rw (lay-lay s m.m0 g, lay-lay s m.m1 g, lay-lay s m.m2 g) h.end.tame.unimodular)

  part-is : Signs s → (k : Axis) → PartAs (level v k) (part k (lay s f.normal))
  part-is g k =
      subst (PartAs (level v k)) (sym (ap (part k) (ap (lay s) found-normal ∙ lay-lay s _ g) ∙ part-levelled v (normal m) k))
      (part-as (level v k) (part k (normal m)) (part_of (tame-normal m h.end.tame) k))

  -- no part against the frame
  pub found-signs : Signs c.signs → NonNegative (lay c.signs f.normal)
  found-signs g = parts-by (λ z. pos 0 ≤ℤ z) (lay s f.normal) (λ k. as-upward (level v k) _ (part-is g k))

  pub found-levels : Signs c.signs → v ≡ levels_of f.normal
  found-levels g = levels-eq (λ k. as-zero (level v k) _ (part-is g k) ∙ lay-part-zero s f.normal g k ∙ sym (levels-of f.normal k))

  pub found-steps : Signs c.signs → f.steps ≤ R - length (remaining (levels_of f.normal))
  unfolding found
  found-steps g = rw (← found-levels g, ap (λ (f : Found). f.steps) h.is) h.end.few_steps.allowed

  -- a level axis's vector stays the unit vector
  pub found-stays : Signs c.signs → (k : Axis) → T (level (levels_of f.normal) k) → vector_of f.triangle k ≡ lay c.signs (unit k)
  found-stays g k e = ap (λ (t : Triangle). vector_of t k) found-triangle ∙ laid_of s m k ∙ ap (lay s) ((h.end.flat k (subst (λ (v : Levels). T (level v k)) (sym (found-levels g)) e) k).own refl)
