-- `make_plain`: what the writer wrote lies inside its lent buffer.
use Rattle.std.proofs.Common.{◌≤◌, List, ℕ, length, IfOk, Ok, Err}
use Rattle.rules.specs.declared.Stack.{Stack}
use Rattle.rules.specs.Answers.{Writing}
use Rattle.rules.specs.P4.{WritePromise}
use Rattle.p4_laws.specs.Trips.{write-accepted}
use Rattle.plain.proofs.make_plain.Goals as goal

inside : {k : Stack} {bytes before after : List ℕ} (r : Writing) → WritePromise k bytes before after r → IfOk r (λ count. count ≤ length after)
inside (Ok count) w = (write-accepted w).inside
inside (Err refused) w = tt

pub returns : goal.returns
returns c = inside c.write.result c.write.ensures
