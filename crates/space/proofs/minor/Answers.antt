-- Two products of at most 10^8 each fit in 32 bits, and so does their difference.
use Rattle.integers.specs.Machine.{machine, fits, value}
use Rattle.space.proofs.minor.Goals as goal

pub overflow_sub-result : goal.overflow_sub-result
overflow_sub-result c = fits (search machine depth 30 fits 5000) tt

pub returns : goal.returns
returns c = value (search machine depth 30 fits 5000) tt
