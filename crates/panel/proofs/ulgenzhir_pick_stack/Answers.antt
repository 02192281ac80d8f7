-- What `pick_solid` promises of its answer, flattened; the parameters are read back from their bits.
use mathlib.Core.Path.{ap, ◌∙◌}
use mir.Facts.{to_z-of_z}
use Rattle.flat.specs.Flat.{flat_pick}
use Rattle.panel.proofs.Read.{stack-read, point-read}
use Rattle.panel.proofs.ulgenzhir_pick_stack.Goals as goal

pub returns : goal.returns
returns c =
    let own = c.ranges in
    record { is = c.into.ensures ∙ ap flat_pick (rw (stack-read own.width own.height own.depth c.stack_of.ensures, point-read own.px own.py own.pz c.point-p.ensures, to_z-of_z own.frame, to_z-of_z own.reach) at c.pick_solid.ensures.is) }
