-- `find` adds the bytes before the mark to the place from which it is looked for.
use Rattle.line.proofs.Finding.{part-ends}
use Rattle.line.proofs.find.Goals as goal

pub returns : goal.returns
returns c = search part-ends
