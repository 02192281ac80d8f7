-- `answer::put_accepted` meets its contract: "N", the normal, steps and looks, written in a row, are one write.
use Rattle.answer.proofs.Words.{wrote-accepted}
use Rattle.answer.proofs.put_accepted.Goals as goal

pub returns : goal.returns
returns c = search wrote-accepted
