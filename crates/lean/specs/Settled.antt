-- What `known_lean` promises settles its answer.
use Rattle.std.specs.Prelude.{◌≡◌, ℤ}
use Rattle.std.proofs.Common.{sym, ◌∙◌}
use Rattle.rules.specs.Answers.{Pick, Lean}
use Rattle.rules.specs.Lean.{LeanPromise}

pub lean-settled : {pick : Pick} {reach : ℤ} {r t : Lean} → LeanPromise pick reach r → LeanPromise pick reach t → r ≡ t
lean-settled h k = h.is ∙ sym k.is
