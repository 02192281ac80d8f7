-- `p4_header::add_digit` meets its contract: a digit's byte lies from 48 to 57, so the difference is none below zero.
use Rattle.std.proofs.Common.{arith}
use Rattle.text.specs.Decimals.{digit-range}
use Rattle.p4_header.proofs.add_digit.Goals as goal

pub overflow_sub-b : goal.overflow_sub-b
overflow_sub-b c = omega (arith, digit-range _ c.requires.1)
