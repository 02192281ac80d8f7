-- `answer::put_word` meets its contract: a space and a signed number are twelve bytes at most.
use Rattle.answer.proofs.Words.{word_room, wrote-word}
use Rattle.answer.proofs.put_word.Goals as goal

pub put_signed-requires : goal.put_signed-requires
put_signed-requires c = search word_room

pub returns : goal.returns
returns c = search wrote-word
