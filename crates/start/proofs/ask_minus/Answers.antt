-- `start::ask_minus` meets its contract: the line's opposite has minus the unit vector, laid in.
use mathlib.Core.Path.{ap, ◌∙◌}
use native.Mathlib.Omega.{arith}
use Rattle.along.specs.Lines.{way_along}
use Rattle.along.specs.Facts.{line-along, turned-line, line-fits, way_back}
use Rattle.start.proofs.Axes.{minus-asked}
use Rattle.start.proofs.ask_minus.Goals as goal

pub turn-requires : goal.turn-requires
turn-requires c = line-fits c.args.probe.now.ready (line-along c.args.probe.now.ready c.requires.0)

pub ask_along-requires : goal.ask_along-requires
ask_along-requires c = (rw c.turn.ensures (turned-line (line-along c.args.probe.now.ready c.requires.0)), omega arith)

pub returns : goal.returns
returns c = minus-asked (ap way_along c.turn.ensures ∙ way_back c.requires.0) c.ask_along.ensures
