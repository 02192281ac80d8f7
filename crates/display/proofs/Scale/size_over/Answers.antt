-- `size_over` is the root of n·n·2^30 over the sum.
use Rattle.display.proofs.Components.{size_is}
use Rattle.display.proofs.Scale.size_over.Goals as goal

pub returns : goal.returns
returns c = search size_is
