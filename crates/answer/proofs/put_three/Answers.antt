-- `answer::put_three` meets its contract: three words, written in a row, are one write.
use Rattle.answer.proofs.Words.{wrote-three}
use Rattle.answer.proofs.put_three.Goals as goal

pub returns : goal.returns
returns c = search wrote-three
