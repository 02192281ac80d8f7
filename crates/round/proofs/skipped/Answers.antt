-- `round::skipped` meets its contract: by the level axes.
use Rattle.round.proofs.Numbers.{skips}
use Rattle.round.proofs.skipped.Goals as goal

pub returns : goal.returns
returns c = skips c.args.level
