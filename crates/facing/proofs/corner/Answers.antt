-- `facing::corner` meets its contract: the apex, less a unit vector that was laid in.
use Rattle.facing.proofs.Units.{fitting}
use Rattle.facing.proofs.corner.Goals as goal

pub lay-requires : goal.lay-requires
lay-requires c = search fitting

pub add-requires : goal.add-requires
add-requires c = search fitting
