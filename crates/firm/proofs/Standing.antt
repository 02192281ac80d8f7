-- The footing of an accepted answer: refusal 35, the start's refusals, or the last power at which all stands, with the bound at it.
use mathlib.Core.Path.{◌≡◌, sym, ◌∙◌}
use mathlib.Core.Bool.{Bool, true, false}
use mathlib.Core.List.{List}
use Prim.Native.Nat.{ℕ}
use Rattle.std.specs.Prelude.{Ok as Stands, Err as Refused, Ok as Clear}
use Rattle.rules.specs.declared.Vector.{Vector}
use Rattle.rules.specs.declared.Solid.{Solid}
use Rattle.rules.specs.declared.Levels.{Levels}
use Rattle.rules.specs.declared.Accepted.{Accepted as AcceptedPick}
use Rattle.rules.specs.declared.Refused.{Refused as RefusedPick}
use Rattle.rules.specs.declared.Bound.{Bound}
use Rattle.rules.specs.declared.Footing.{Footing}
use Rattle.rules.specs.Answers.{Firm}
use Rattle.rules.specs.Vectors.{origin}
use Rattle.rules.specs.Walk.{stop, signs, powers}
use Rattle.rules.specs.Lean.{levels_of, measurable, bound_at}
use Rattle.rules.specs.Firm.{footing, start_under, firm_under}
use Rattle.laws.specs.Frames.{signs-are}
use Rattle.laws.specs.Triples.{All}
use Rattle.laws.specs.Bounds.{Bounded}
use Rattle.laws.specs.Tally.{then-yes, then-no, at_once, ensured, not-ensured}
use Rattle.solid.specs.declared.Body.{Body}
use Rattle.solid.specs.Facts.{inside-bounded}
use Rattle.falls.specs.Sizes.{signs-bounded}
use Rattle.refusals.specs.Refusals.{refusal_of}
use Rattle.facing.specs.Facing.{Cleared}
use Rattle.footing.specs.declared.Ground.{Ground}
use Rattle.footing.specs.declared.Footed.{Footed}
use Rattle.footing.specs.Footing.{FirmTo}
use Rattle.firm.specs.Firm.{standing, StartCleared, StoodOn, FirmFrom, FirmUnder}

-- ---- the footing, with its bound
pub stood_on : {g : Ground} {a : AcceptedPick} {reach looks : ℕ} {f : Footed} {b : Bound} → FirmTo g reach looks f → b ≡ bound_at f.power a → StoodOn g a reach looks (record { power = f.power; looks = f.looks; bound = b })
stood_on h e = record { gives = rw e (then-yes _ h.gives at_once) }

-- ---- from the start p, with the signs s
pub started : (b : Body) {p q : Vector} {k : Cleared} {n : ℕ} → StartCleared b.solid b.bytes.now p q k → k ≡ Clear n → Bounded 1023 p
started b h g = inside-bounded b.permitted (rw g at h.place).0

-- the question after the start's refusals is the ground's
pub from-stands : (b : Body) {a : AcceptedPick} {s p : Vector} {reach : ℕ} {k : Cleared} {v : Levels} {x : Bounded 1023 p} {y : Bounded 1 s} {z : All (Bounded 2046) a.triangle} {n : ℕ} {f : Footing} → StartCleared b.solid b.bytes.now p a.apex k → k ≡ Clear n → v ≡ levels_of a.normal → StoodOn (record { body = b; start = p; signs = s; triangle = a.triangle; level = v; started = x; signed = y; sized = z }) a reach n f → FirmFrom b.solid b.bytes.now a s p reach (Stands f)
unfolding footing
from-stands b {a} {s} {p} {reach} h e i g = record { gives = record { is = (rw i at g.gives.is) ∙ (rw e at (h.is s (powers reach) (standing b.solid b.bytes.now a s p reach))).is } }

-- ---- from the start under the apex
pub signs-small : {s : Vector} (frame : ℕ) → s ≡ signs frame → Bounded 1 s
signs-small frame e = rw e (signs-bounded (signs-are frame))

module _ {solid : Solid} {bytes : List ℕ} {a : AcceptedPick} {frame reach : ℕ} {m : Bool} (h : m ≡ measurable a) where
  pub under-unmeasured : {r : RefusedPick} → m ≡ false → r ≡ refusal_of 35 origin 0 0 → FirmUnder solid bytes a frame reach (Refused r)
  unfolding firm_under
  under-unmeasured e f = record { gives = rw f (then-no _ (not-ensured (sym h ∙ e))) }

  pub under-measured : {s p : Vector} {r : Firm} → m ≡ true → s ≡ signs frame → p ≡ start_under a.apex s → FirmFrom solid bytes a s p reach r → FirmUnder solid bytes a frame reach r
  unfolding firm_under
  under-measured e hs hp g = record { gives = then-yes _ (ensured (stop 35 origin 0) (sym h ∙ e)) (rw (hp, hs) at g.gives) }

pub ruleset under = (under-unmeasured, under-measured)
