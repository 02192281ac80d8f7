-- What `firm_solid` promises of its answer, flattened, of the pick that was handed back; the parameters are read back from their bits.
use mathlib.Core.Path.{ap, ◌∙◌}
use mir.Facts.{to_z-of_z}
use Rattle.flat.specs.Flat.{flat_firm}
use Rattle.panel.proofs.Read.{stack-read}
use Rattle.panel.proofs.ulgenzhir_firm_stack.Goals as goal

pub returns : goal.returns
returns c =
    let own = c.ranges in
    record { is = c.into-2.ensures ∙ ap flat_firm (rw (c.into.ensures, stack-read own.width own.height own.depth c.stack_of.ensures, to_z-of_z own.frame, to_z-of_z own.reach) at c.firm_solid.ensures.is) }
