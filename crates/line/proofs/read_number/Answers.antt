-- Each way out of `read_number` is the definition's number: of an empty part, with a minus, without.
use Rattle.line.proofs.Numbers.{empty, no_minus, minus-none, minus-some, plus-none, plus-some}
use Rattle.line.proofs.read_number.Goals as goal

pub returns-then-is_empty : goal.returns-then-is_empty
returns-then-is_empty c = search empty

pub returns-in_err-read_digits : goal.returns-in_err-read_digits
returns-in_err-read_digits c = search (minus-none, c.in_err-read_digits.ensures)

pub negative-requires : goal.negative-requires
negative-requires c = search (no_minus, c.in_ok-read_digits.ensures)

pub returns-then-part-eq45 : goal.returns-then-part-eq45
returns-then-part-eq45 c = search (minus-some, c.in_ok-read_digits.ensures)

pub returns-in_err-read_digits-2 : goal.returns-in_err-read_digits-2
returns-in_err-read_digits-2 c = search (plus-none, c.in_err-read_digits-2.ensures)

pub returns : goal.returns
returns c = search (plus-some, c.in_ok-read_digits-2.ensures)
