-- `p4_header::read_digits` meets its contract: the loop keeps `Counting` and stops at no digit or with the input.
use Rattle.p4_header.proofs.Scanning.{Counting}
use Rattle.p4_header.proofs.read_digits.Given as goal

abbrev pub invariant-loop-i : goal.invariant-loop-i
invariant-loop-i l = Counting l.bytes l.at l.i l.value
