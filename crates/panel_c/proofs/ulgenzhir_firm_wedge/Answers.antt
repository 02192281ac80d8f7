-- The promise of `panel`'s function, with the numbers read back from their bits.
use mir.Facts.{to_z-of_z}
use Rattle.panel_c.proofs.ulgenzhir_firm_wedge.Goals as goal

pub returns : goal.returns
returns c = rw (to_z-of_z c.ranges.a, to_z-of_z c.ranges.b, to_z-of_z c.ranges.c, to_z-of_z c.ranges.h, to_z-of_z c.ranges.frame, to_z-of_z c.ranges.reach) at c.ulgenzhir_firm_wedge.ensures
