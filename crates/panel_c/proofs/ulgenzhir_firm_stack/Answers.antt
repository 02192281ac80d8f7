-- The promise of `panel`'s function, with the numbers read back from their bits.
use mir.Facts.{to_z-of_z}
use Rattle.panel_c.proofs.ulgenzhir_firm_stack.Goals as goal

pub returns : goal.returns
returns c = rw (to_z-of_z c.ranges.width, to_z-of_z c.ranges.height, to_z-of_z c.ranges.depth, to_z-of_z c.ranges.frame, to_z-of_z c.ranges.reach) at c.ulgenzhir_firm_stack.ensures
