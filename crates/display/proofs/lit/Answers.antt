-- `lit` shows the three parts of one sum.
use Rattle.display.proofs.Answers.{lit_is}
use Rattle.display.proofs.lit.Goals as goal

pub returns : goal.returns
returns c = search lit_is
