-- `start::ask_opposite` meets its contract: by what `ask_along` promises of the unit vector.
use native.Mathlib.Omega.{arith}
use Rattle.along.specs.Facts.{line-along, way-laid}
use Rattle.start.proofs.Axes.{asking-opposite}
use Rattle.start.proofs.ask_opposite.Goals as goal

pub ask_along-requires : goal.ask_along-requires
ask_along-requires c = (line-along c.args.probe.now.ready c.requires.0, omega arith)

pub returns-in-Fell : goal.returns-in-Fell
returns-in-Fell c = search (asking-opposite, way-laid)

pub returns-in-Kept : goal.returns-in-Kept
returns-in-Kept c = search (asking-opposite, way-laid)

pub returns-in-Stopped : goal.returns-in-Stopped
returns-in-Stopped c = search (asking-opposite, way-laid)
