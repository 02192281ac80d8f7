-- `root` goes up while the next is not too large. 32769 is, so what is left up to it is the measure.
use Rattle.display.proofs.Roots.{no_more}
use Rattle.display.proofs.Scale.root.Goals as goal

pub returns : goal.returns
returns c = search no_more
