-- A refusal, and what it tells.
use Rattle.std.specs.Prelude.{ℕ}
use Rattle.rules.specs.declared.Vector.{Vector}
use Rattle.rules.specs.declared.Refused.{Refused}
use Rattle.rules.specs.Walk.{Stop}
use Rattle.laws.specs.Answers.{stop_of}
use Rattle.laws.specs.Tally.{Tally, no}

abbrev pub refusal_of : ℕ → Vector → ℕ → ℕ → Refused
refusal_of number place steps looks = record { number = number; place = place; steps = steps; looks = looks }

-- with the looks so far
abbrev pub refusal_tally : {A : Type 0} → Refused → Tally Stop A
refusal_tally r = no (stop_of r) r.looks
