-- What `check_solid` promises of its answer, flattened; the parameters are read back from their bits.
use mathlib.Core.Path.{ap, ◌∙◌}
use mir.Facts.{to_z-of_z}
use Rattle.flat.specs.Flat.{flat_check}
use Rattle.panel.proofs.Read.{wedge-read, point-read}
use Rattle.panel.proofs.ulgenzhir_check_wedge.Goals as goal

pub returns : goal.returns
returns c =
    let own = c.ranges in
    record { is = c.into.ensures ∙ ap flat_check (rw (wedge-read own.a own.b own.c own.h c.wedge_of.ensures, point-read own.px own.py own.pz c.point-p.ensures, to_z-of_z own.frame, to_z-of_z own.reach) at c.check_solid.ensures.is) }
