-- One call, of a pick, a quick touch, a start check or a walk from a ready start: where it begins, how it ends, and that what it comes to is the definition's.
use Rattle.std.specs.Prelude.{◌≡◌, Bool, true, false, List, ℕ, ℤ, length, Result, Ok, Err}
use Rattle.rules.specs.declared.Vector.{Vector}
use Rattle.rules.specs.declared.Look.{Look}
use Rattle.rules.specs.declared.Solid.{Solid}
use Rattle.rules.specs.declared.Refused.{Refused}
use Rattle.rules.specs.Answers.{Check as CheckAnswer, Pick as PickAnswer}
use Rattle.rules.specs.declared.ReadyStart.{ReadyStart}
use Rattle.rules.specs.Vectors.{origin}
use Rattle.rules.specs.Solids.{permitted, look}
use Rattle.rules.specs.Asked.{Asked as Question}
use Rattle.rules.specs.Walk.{Stop, powers, Probe, Found, to_the_end}
use Rattle.rules.specs.Pick.{pick, answer}
use Rattle.rules.specs.Touch.{touch}
use Rattle.rules.specs.TwoCalls.{ready_start, check_of, is_ready, answer_from, walk_of}
use Rattle.falls.specs.declared.Scene.{Scene}
use Rattle.falls.specs.Scene.{probe_of}
use Rattle.refusals.specs.Refusals.{refusal_of}
use Rattle.start.specs.declared.Begun.{Begun}
use Rattle.start.specs.Start.{Start, Started}
use Rattle.inputs.specs.declared.Begin.{Begin}
use Rattle.inputs.specs.declared.Begin.TheVariants.{Asked, Handed}
use Rattle.call.specs.declared.Call.{Call}
use Rattle.call.specs.declared.Call.TheVariants.{Pick, Touch, Check, Walk}
use Rattle.call.specs.declared.Found.{Found as CallFound}
use Rattle.call.specs.declared.Found.TheVariants.{Ready, Accepted}

abbrev pub Outcome : Type 0
Outcome = Result CallFound Refused

-- ---- where the rounds begin
abbrev pub begin_of : Call → Begin
begin_of (Pick p) = Asked false p
begin_of (Touch p) = Asked true p
begin_of (Check p) = Asked false p
begin_of (Walk d) = Handed d

-- a ready start, by whether it is ready
abbrev pub readied : Bool → ReadyStart → Start
readied true d = Ok (record { level = d.level; looks = d.looks })
readied false d = Err (refusal_of 13 origin 0 0)

abbrev pub readied_as : ℕ → ReadyStart → Start
readied_as R d = readied (is_ready (length (powers R)) d) d

abbrev pub BegunAs : Begin → Probe → ℕ → Start → Type 0
BegunAs (Asked quick p) c R r = Started quick c p r
BegunAs (Handed d) c R r = r ≡ readied_as R d

pub record RoundsBegun (begin : Begin) (c : Probe) (R : ℕ) (r : Start) : Type 0 where
  pub begun : BegunAs begin c R r

-- ---- a check ends with its ready start, the others with the answer at the end of the walk
abbrev pub walked : PickAnswer → Outcome
walked (Ok a) = Ok (Accepted a)
walked (Err r) = Err r

abbrev pub walk_end : Scene → List ℕ → Begun → Outcome
walk_end v bytes b = walked (answer_from b.looks (to_the_end (probe_of v bytes) v.reach b.level))

abbrev pub end_of : Call → Scene → List ℕ → Begun → Outcome
end_of (Pick p) v bytes b = walk_end v bytes b
end_of (Touch p) v bytes b = walk_end v bytes b
end_of (Check p) v bytes b = Ok (Ready (ready_start p v.apex b.level b.looks))
end_of (Walk d) v bytes b = walk_end v bytes b

-- ---- what a call comes to
-- a quick touch, or a pick
abbrev pub walk_at : Bool → Bool → (Vector → Look) → Vector → ℤ → ℤ → Question Stop Found
walk_at true = touch
walk_at false = pick

abbrev pub checked : CheckAnswer → Outcome
checked (Ok d) = Ok (Ready d)
checked (Err r) = Err r

abbrev pub outcome_of : Call → Solid → List ℕ → ℤ → ℤ → Outcome
outcome_of (Pick p) solid bytes frame reach = walked (answer (walk_at false (permitted solid bytes) (look solid bytes) p frame reach))
outcome_of (Touch p) solid bytes frame reach = walked (answer (walk_at true (permitted solid bytes) (look solid bytes) p frame reach))
outcome_of (Check p) solid bytes frame reach = checked (check_of solid bytes p frame reach)
outcome_of (Walk d) solid bytes frame reach = walked (walk_of solid bytes d frame reach)

pub record CallMade (call : Call) (solid : Solid) (bytes : List ℕ) (frame reach : ℤ) (r : Outcome) : Type 0 where
  pub is : r ≡ outcome_of call solid bytes frame reach

-- the outcomes of picks, touches and walks, and those of checks
abbrev pub EndsPick : Outcome → Type 0
EndsPick (Ok (Ready d)) = ⊥
EndsPick (Ok (Accepted a)) = Unit {0}
EndsPick (Err r) = Unit {0}

abbrev pub EndsCheck : Outcome → Type 0
EndsCheck (Ok (Ready d)) = Unit {0}
EndsCheck (Ok (Accepted a)) = ⊥
EndsCheck (Err r) = Unit {0}
