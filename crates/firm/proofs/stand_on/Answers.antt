-- `firm::stand_on` meets its contract: the last power, and the bound at it.
use Rattle.firm.proofs.Standing.{stood_on}
use Rattle.firm.proofs.stand_on.Goals as goal

pub returns : goal.returns
returns c = search stood_on
