-- `facing::ask_corner` meets its contract: by the look at the corner.
use Rattle.falls.specs.Sizes.{apex-fits}
use Rattle.facing.specs.Looks.{body-look}
use Rattle.facing.proofs.Corners.{asking-corner}
use Rattle.facing.proofs.ask_corner.Goals as goal

pub corner-place-requires : goal.corner-place-requires
corner-place-requires c = let ready = c.args.probe.now.ready in (apex-fits ready, ready.signed, c.requires.0)

pub returns-in-Outside : goal.returns-in-Outside
returns-in-Outside c = search (body-look, asking-corner)

pub returns-in-Empty : goal.returns-in-Empty
returns-in-Empty c = search (body-look, asking-corner)

pub returns-in-Filled : goal.returns-in-Filled
returns-in-Filled c = search (body-look, asking-corner)
