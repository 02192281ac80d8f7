-- The cast keeps the depth.
use Rattle.stack.specs.Sides.{side-casts}
use Rattle.stack.proofs.Sizes.{stack-fits, stack-bytes}
use Rattle.stack.proofs.stack_bytes.Goals as goal

pub overflow_cast-depth : goal.overflow_cast-depth
overflow_cast-depth c = search side-casts

pub overflow_mul-result : goal.overflow_mul-result
overflow_mul-result c = search stack-fits

pub returns : goal.returns
returns c = search stack-bytes
