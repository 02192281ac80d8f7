-- `p4_write::figures` meets its contract: one more than the logarithm by ten.
use Rattle.p4_write.proofs.Digits.{figures-of}
use Rattle.p4_write.proofs.figures.Goals as goal

pub returns : goal.returns
returns c = search figures-of
