-- `facing::face` meets its contract: by the two looks.
use Rattle.facing.specs.Looks.{body-look, looking}
use Rattle.facing.proofs.face.Goals as goal

pub returns-in-Outside : goal.returns-in-Outside
returns-in-Outside c = search (body-look, looking)

pub returns-in-Empty : goal.returns-in-Empty
returns-in-Empty c = search (body-look, looking)

pub returns-in-Outside-look_ranked : goal.returns-in-Outside-look_ranked
returns-in-Outside-look_ranked c = search (body-look, looking)

pub returns-in-Filled-look_ranked : goal.returns-in-Filled-look_ranked
returns-in-Filled-look_ranked c = search (body-look, looking)

pub returns-in-Empty-look_ranked : goal.returns-in-Empty-look_ranked
returns-in-Empty-look_ranked c = search (body-look, looking)
