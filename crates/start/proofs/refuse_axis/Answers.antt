-- `start::refuse_axis` meets its contract: refusal 7 at the corner.
use Rattle.axis.specs.Along.{unit-bounded}
use Rattle.laws.specs.Bounds.{bounded-is}
use Rattle.falls.specs.Sizes.{apex-fits}
use Rattle.start.proofs.Axes.{is-opposed}
use Rattle.start.proofs.refuse_axis.Goals as goal

pub corner-place-requires : goal.corner-place-requires
corner-place-requires c = let ready = c.args.probe.now.ready in (apex-fits ready, ready.signed, bounded-is c.unit_of.ensures (unit-bounded c.args.axis))

pub returns : goal.returns
returns c = is-opposed c.unit_of.ensures c.corner-place.ensures c.refuse.ensures
