-- `answer::put_count` meets its contract: a space and a number from zero on are eleven bytes at most.
use Rattle.answer.proofs.Words.{count_room, wrote_count}
use Rattle.answer.proofs.put_count.Goals as goal

pub put_number-requires : goal.put_number-requires
put_number-requires c = search count_room

pub returns : goal.returns
returns c = search wrote_count
