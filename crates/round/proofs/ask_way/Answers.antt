-- `round::ask_way` meets its contract: by what `ask_falls` promises of the pair's way.
use Rattle.round.proofs.Ways.{ways}
use Rattle.round.proofs.Rounds.{way-fell, way-kept, way-stopped}
use Rattle.round.proofs.ask_way.Goals as goal

pub subtract-way-requires : goal.subtract-way-requires
subtract-way-requires c = search ways

pub ask_falls-requires : goal.ask_falls-requires
ask_falls-requires c = search ways

pub weigh-requires : goal.weigh-requires
weigh-requires c = search ways

pub returns-in-Fell : goal.returns-in-Fell
returns-in-Fell c = search (ways, way-fell)

pub returns-in-Kept : goal.returns-in-Kept
returns-in-Kept c = search (ways, way-kept)

pub returns-in-Stopped : goal.returns-in-Stopped
returns-in-Stopped c = search (ways, way-stopped)
