-- `read_digits` says the number of the digits that were read.
use Rattle.line.proofs.Counting.{Reading}
use Rattle.line.proofs.read_digits.Given as goal

abbrev pub invariant-loop-b : goal.invariant-loop-b
invariant-loop-b l = Reading l.part l.b-index l.v
