-- `read_digits` says the number of one to ten digits.
use Rattle.line.proofs.Counting.{other-length, digit_low, reading-more, no_digit, all_read}
use Rattle.line.proofs.read_digits.Goals as goal

pub returns-then-is_empty : goal.returns-then-is_empty
returns-then-is_empty c = search other-length

pub returns-then-not-is_digit : goal.returns-then-not-is_digit
returns-then-not-is_digit c = search no_digit

pub overflow_sub-v : goal.overflow_sub-v
overflow_sub-v c = search digit_low

pub loop-b-preserved : goal.loop-b-preserved
loop-b-preserved c = search reading-more

pub returns : goal.returns
returns c = search all_read
