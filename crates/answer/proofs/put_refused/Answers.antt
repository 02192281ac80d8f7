-- `answer::put_refused` meets its contract: "R", number, place, steps and looks, written in a row, are one write.
use Rattle.answer.proofs.Words.{wrote-refused}
use Rattle.answer.proofs.put_refused.Goals as goal

pub returns : goal.returns
returns c = search wrote-refused
