-- The one digit where n is below ten; else the digits of n / 10 by the call, and then the last.
use Rattle.std.proofs.Common.{arith}
use Rattle.text.proofs.Figures.{room-one, put_one, room-more, room-last, put_last}
use Rattle.text.proofs.Writer.+put_number.Goals as goal

pub put-requires : goal.put-requires
put-requires t c = search room-one

pub returns-then-n-lt10 : goal.returns-then-n-lt10
returns-then-n-lt10 t c = search put_one

pub put_number-requires : goal.put_number-requires
put_number-requires t c = (omega arith, search room-more)

pub put-requires-2 : goal.put-requires-2
put-requires-2 t c = search room-last

pub returns : goal.returns
returns t c = search put_last
