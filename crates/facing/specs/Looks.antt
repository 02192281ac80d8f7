-- The looks at p and, if p is filled, at q: what each makes of the question.
use Rattle.std.specs.Prelude.{◌≡◌, refl, not, List, ℕ, Ok as Clear, Err as IsRefused}
use Rattle.std.proofs.Common.{sym, ◌∙◌, arith}
use Rattle.std.proofs.Math.Path.{ap}
use Rattle.rules.specs.declared.Vector.{Vector}
use Rattle.rules.specs.declared.Solid.{Solid}
use Rattle.rules.specs.declared.Look.{Look}
use Rattle.rules.specs.declared.Look.TheVariants.{Filled, Empty, Outside}
use Rattle.rules.specs.declared.Refused.{Refused}
use Rattle.rules.specs.Solids.{look}
use Rattle.rules.specs.Asked.{◌>>=◌}
use Rattle.rules.specs.Walk.{Stop, stop, ensure, asked, look_at, Probe, facing}
use Rattle.laws.specs.Tally.{Tally, Gives, then-yes, then-no, asked-yes, asked-no, ensured, not-ensured, filled-there, empty-there, outside-there}
use Rattle.refusals.specs.Refusals.{refusal_of}
use Rattle.facing.specs.Facing.{FacingAsked}

-- a look at a body of this solid and these bytes
pub body-look : {solid body : Solid} {bytes lent : List ℕ} (p : Vector) {a : Look} → (body ≡ solid) × (lent ≡ bytes) → a ≡ look body lent p → a ≡ look solid bytes p
body-look p e h = rw (e.0, e.1) at h

-- the look at q, once p is filled
apex-next : (c : Probe) (p : Vector) {r : Tally Stop (Unit {0})} → c.look p ≡ Filled → Gives 1 (asked 0 (look_at c.look c.apex) >>= λ g. ensure (not g) (stop 6 c.apex 0)) r → Gives 0 (facing c p) r
unfolding facing
apex-next c p e h = then-yes _ (asked-yes 0 (filled-there c.look 0 p e)) (then-yes _ (ensured (stop 5 p 0) refl) h)

module _ {c : Probe} {p : Vector} {a : Look} (ha : a ≡ c.look p) where
  pub start_outside : {r : Refused} → a ≡ Outside → r ≡ refusal_of 8 p 0 0 → FacingAsked c p (IsRefused r)
  unfolding facing
  start_outside e f = record { gives = rw f (then-no _ (asked-no 0 (outside-there c.look 0 p (sym ha ∙ e)))); few = omega (arith, ap (λ (r : Refused). r.looks) f) }

  pub start-empty : {r : Refused} → a ≡ Empty → r ≡ refusal_of 5 p 0 1 → FacingAsked c p (IsRefused r)
  unfolding facing
  start-empty e f = record { gives = rw f (then-yes _ (asked-yes 0 (empty-there c.look 0 p (sym ha ∙ e))) (then-no _ (not-ensured refl))); few = omega (arith, ap (λ (r : Refused). r.looks) f) }

  module _ {b : Look} (e : a ≡ Filled) (hb : b ≡ c.look c.apex) where
    pub apex-outside : {r : Refused} → b ≡ Outside → r ≡ refusal_of 8 c.apex 0 1 → FacingAsked c p (IsRefused r)
    apex-outside g f = record { gives = rw f (apex-next c p (sym ha ∙ e) (then-no _ (asked-no 0 (outside-there c.look 1 c.apex (sym hb ∙ g))))); few = omega (arith, ap (λ (r : Refused). r.looks) f) }

    pub apex-filled : {r : Refused} → b ≡ Filled → r ≡ refusal_of 6 c.apex 0 2 → FacingAsked c p (IsRefused r)
    apex-filled g f = record { gives = rw f (apex-next c p (sym ha ∙ e) (then-yes _ (asked-yes 0 (filled-there c.look 1 c.apex (sym hb ∙ g))) (not-ensured refl))); few = omega (arith, ap (λ (r : Refused). r.looks) f) }

    pub apex-empty : b ≡ Empty → FacingAsked c p (Clear 2)
    apex-empty g = record { gives = apex-next c p (sym ha ∙ e) (then-yes _ (asked-yes 0 (empty-there c.look 1 c.apex (sym hb ∙ g))) (ensured (stop 6 c.apex 0) refl)); few = omega arith }

pub ruleset looking = (start_outside, start-empty, apex-outside, apex-filled, apex-empty)
