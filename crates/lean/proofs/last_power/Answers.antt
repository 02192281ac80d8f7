-- `lean::last_power` meets its contract: the next power of two is the last of the powers.
use Rattle.laws.specs.Powers.{last-power-is}
use Rattle.lean.proofs.last_power.Goals as goal

pub returns : goal.returns
returns c = search last-power-is
