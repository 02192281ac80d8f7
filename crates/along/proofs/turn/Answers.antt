-- `along::turn` meets its contract: two numbers change their signs.
use mathlib.Core.Path.{refl}
use Rattle.integers.specs.Machine.{machine, typed, fits, value}
use Rattle.along.specs.Facts.{line-is}
use Rattle.along.proofs.turn.Goals as goal

pub overflow_sub-result : goal.overflow_sub-result
overflow_sub-result c = fits (search machine depth 30 fits 5000) tt

pub overflow_sub-result-2 : goal.overflow_sub-result-2
overflow_sub-result-2 c = fits (search machine depth 30 fits 5000) tt

pub returns : goal.returns
returns c = line-is refl (value (search (machine, typed) depth 30 fits 5000) tt) (value (search machine depth 30 fits 5000) tt) (value (search machine depth 30 fits 5000) tt)
