-- `along::line_of` meets its contract: part by part along the axis.
use mathlib.Core.Path.{ap₂, ◌∙◌}
use lib.IntN.{◌*ℤ◌}
use mir.Syntax.{w32}
use Rattle.integers.specs.Machine.{machine, fits, value, back}
use Rattle.integers.specs.Sizes.{within-is}
use Rattle.axis.specs.Along.{part-within}
use Rattle.falls.specs.Sizes.{signs-bounded}
use Rattle.along.specs.Facts.{line-is}
use Rattle.falls.specs.Fits.{ranks-bounded}
use Rattle.along.proofs.line_of.Goals as goal

pub overflow_mul-rise : goal.overflow_mul-rise
overflow_mul-rise c =
    let step = within-is c.part_of-step.ensures (part-within (signs-bounded c.requires.1) c.args.axis) in
    let rank = within-is c.part_of.ensures (part-within (ranks-bounded c.requires.0) c.args.axis) in
    fits (search machine depth 30 fits 5000) tt

pub returns : goal.returns
returns c =
    let step = within-is c.part_of-step.ensures (part-within (signs-bounded c.requires.1) c.args.axis) in
    let rank = within-is c.part_of.ensures (part-within (ranks-bounded c.requires.0) c.args.axis) in
    record {
      is = line-is c.side_of-side.ensures (back w32 _ c.part_of-from.type_inv ∙ c.part_of-from.ensures) (back w32 _ c.part_of-step.type_inv ∙ c.part_of-step.ensures)
          (value (search machine depth 30 fits 5000) tt ∙ ap₂ ◌*ℤ◌ c.part_of-step.ensures c.part_of.ensures);
    }
