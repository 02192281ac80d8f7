-- `answer::put_counts` meets its contract: two counts and LF, written in a row, are one write.
use Rattle.answer.proofs.Words.{wrote-counts}
use Rattle.answer.proofs.put_counts.Goals as goal

pub returns : goal.returns
returns c = search wrote-counts
