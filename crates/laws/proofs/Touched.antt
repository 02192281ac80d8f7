-- What every touch on both solids tells holds of its answer: the corners of a touch that was not refused before lie in the box.
use Rattle.std.specs.Prelude.{◌≡◌, ◌⊎◌, List, ℕ, suc, ◌+◌, ◌*◌, ◌-◌, ◌≤◌, length, ℤ, nat_abs}
use Rattle.std.proofs.Common.{subst, inl, inr, arith}
use Rattle.rules.specs.declared.Vector.{Vector}
use Rattle.rules.specs.declared.Solid.{Solid}
use Rattle.rules.specs.declared.Accepted.{Accepted as AcceptedPick}
use Rattle.rules.specs.declared.Refused.{Refused as RefusedPick}
use Rattle.rules.specs.Answers.{Pick, Touch, guess}
use Rattle.std.specs.Prelude.{Ok as Accepted, Err as Refused, Err as TouchRefused}
use Rattle.rules.specs.Solids.{permitted, look}
use Rattle.rules.specs.Walk.{signs, Probe}
use Rattle.rules.specs.Pick.{probe}
use Rattle.rules.specs.Touch.{nearer, touch, touch_of}
use Rattle.laws.specs.Corners.{CornerEmpty, nth, corner-inside}
use Rattle.laws.specs.Answers.{steps_of, looks_of, stop_of, AnswerSays}
use Rattle.laws.specs.Touches.{NextTouch, TouchStop, TouchFound}
use Rattle.laws.proofs.Touches.{touch-says}
use Rattle.laws.specs.Touched.{unmarked, marked-says}

module _ (solid : Solid) (bytes : List ℕ) (p : Vector) (frame reach : ℤ) where
  abbrev R : ℕ
  R = nat_abs reach

  abbrev c : Probe
  c = nearer (probe (look solid bytes) p frame reach)

  tells : AnswerSays (TouchFound R) (TouchStop c R) (unmarked (touch_of solid bytes p frame reach))
  unfolding touch_of
  tells = marked-says _ _ (touch (permitted solid bytes) (look solid bytes) p frame reach) (touch-says (permitted solid bytes) (look solid bytes) p frame reach (corner-inside solid bytes p (signs (nat_abs frame))))

  pub few-steps : steps_of (unmarked (touch_of solid bytes p frame reach)) ≤ nat_abs reach - 3
  few-steps = go (unmarked (touch_of solid bytes p frame reach)) tells
    where
      go : (x : Pick) → AnswerSays (TouchFound R) (TouchStop c R) x → steps_of x ≤ R - 3
      go (Accepted a) h = h.1.few_steps
      go (Refused r) h = h.1.few_steps

  pub few-looks : looks_of (unmarked (touch_of solid bytes p frame reach)) ≤ 5 + 6 * suc (steps_of (unmarked (touch_of solid bytes p frame reach)))
  few-looks = go (unmarked (touch_of solid bytes p frame reach)) tells
    where
      go : (x : Pick) → AnswerSays (TouchFound R) (TouchStop c R) x → looks_of x ≤ 5 + 6 * suc (steps_of x)
      go (Accepted a) h = omega (arith, h.1.counted, h.2)
      go (Refused r) h = omega (arith, h.1.few, h.2)

  pub most-looks : looks_of (unmarked (touch_of solid bytes p frame reach)) ≤ 1529
  most-looks = go (unmarked (touch_of solid bytes p frame reach)) tells
    where
      by-steps : (r : RefusedPick) (t : List Vector) → TouchStop c R (stop_of r) t → (r.steps ≡ 0) ⊎ (R ≤ 256) → length t ≤ 1529
      by-steps r t h (inl e) = omega (arith, h.few, e)
      by-steps r t h (inr e) = omega (arith, h.few, h.few_steps, e)

      go : (x : Pick) → AnswerSays (TouchFound R) (TouchStop c R) x → looks_of x ≤ 1529
      go (Accepted a) h = omega (arith, h.1.counted, h.1.few_steps, h.1.small, h.2)
      go (Refused r) h = omega (arith, by-steps r h.0 h.1 h.1.small, h.2)

  pub guess-looks : (a : AcceptedPick) → touch_of solid bytes p frame reach ≡ guess a → a.looks ≡ 5 + 6 * suc a.steps
  guess-looks a e = let h = subst (λ (t : Touch). AnswerSays (TouchFound R) (TouchStop c R) (unmarked t)) e tells in omega (arith, h.1.counted, h.2)

  module _ (r : RefusedPick) (is : touch_of solid bytes p frame reach ≡ TouchRefused r) where
    refused : (t : List Vector) × TouchStop c R (stop_of r) t × (r.looks ≡ length t)
    refused = subst (λ (t : Touch). AnswerSays (TouchFound R) (TouchStop c R) (unmarked t)) is tells

    pub refused-known : (1 ≤ r.number) × (r.number ≤ 11) × (r.number ≡ 7 → ⊥)
    refused-known = refused.1.known

    pub refused-next : r.number ≡ 8 → NextTouch (nearer (probe (look solid bytes) p frame reach)) (stop_of r)
    refused-next e = refused.1.next e

    pub refused-corner : r.number ≡ 11 → (h : CornerEmpty (nearer (probe (look solid bytes) p frame reach)) (stop_of r)) × (r.looks ≡ 2 + nth h.axis)
    refused-corner e = let z = refused.1.corner e in (z.0, omega (arith, z.1, refused.2))
