-- The bits of a slice, at most 65,536, fit.
use Rattle.stack.proofs.Sizes.{ranks-are}
use Rattle.stack.proofs.ranks_of.Goals as goal

pub returns : goal.returns
returns c = search ranks-are
