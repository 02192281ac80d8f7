-- `p4_header::read_digits` meets its contract: the loop keeps `Counting` and stops at no digit or with the input.
use Rattle.p4_header.proofs.Scanning.{counting-start, counting-digit, counting-next, counting-stop, counting-end}
use Rattle.p4_header.proofs.read_digits.Goals as goal

pub loop-i-init : goal.loop-i-init
loop-i-init c = search counting-start

pub returns-then-not-is_digit : goal.returns-then-not-is_digit
returns-then-not-is_digit c = search counting-stop

pub add_digit-value-requires : goal.add_digit-value-requires
add_digit-value-requires c = counting-digit c.loop-i.invariant c.is_digit.ensures c.if-not-is_digit.false

pub loop-i-preserved : goal.loop-i-preserved
loop-i-preserved c = search counting-next

pub returns : goal.returns
returns c = search counting-end
