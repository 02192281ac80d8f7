-- `footing::way_of` meets its contract: a unit vector and its opposite are small.
use Rattle.footing.proofs.Ways.{opposite-fits}
use Rattle.footing.proofs.way_of.Goals as goal

pub lay-requires-in-Against : goal.lay-requires-in-Against
lay-requires-in-Against c = search opposite-fits
