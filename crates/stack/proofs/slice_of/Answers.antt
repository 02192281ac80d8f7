-- The casts keep the sides.
use Rattle.stack.specs.Sides.{side-casts}
use Rattle.stack.proofs.slice_of.Goals as goal

pub overflow_cast-result : goal.overflow_cast-result
overflow_cast-result c = search side-casts

pub overflow_cast-result-2 : goal.overflow_cast-result-2
overflow_cast-result-2 c = search side-casts
