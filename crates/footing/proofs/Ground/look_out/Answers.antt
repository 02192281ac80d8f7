-- `footing::Ground::look_out` meets its contract: by the look.
use Rattle.footing.proofs.Ways.{reaching}
use Rattle.footing.proofs.Looks.{looking}
use Rattle.footing.proofs.Ground.look_out.Goals as goal

pub scale-requires : goal.scale-requires
scale-requires c = search reaching

pub add-at-requires : goal.add-at-requires
add-at-requires c = search reaching

pub returns-in-Filled : goal.returns-in-Filled
returns-in-Filled c = search looking

pub returns-in-Empty : goal.returns-in-Empty
returns-in-Empty c = search looking

pub returns-in-Outside : goal.returns-in-Outside
returns-in-Outside c = search looking
