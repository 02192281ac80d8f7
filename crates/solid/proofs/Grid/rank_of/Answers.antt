-- Two products of at most 10^7 each and one of at most 655,360,000 fit in 32 bits, and so does their sum.
use Rattle.integers.specs.Machine.{machine, fits, value}
use Rattle.rules.specs.Vectors.{dot}
use Rattle.solid.proofs.Grid.rank_of.Goals as goal

pub overflow_mul-result : goal.overflow_mul-result
overflow_mul-result c = fits (search machine depth 30 fits 5000) tt

pub overflow_mul-result-2 : goal.overflow_mul-result-2
overflow_mul-result-2 c = fits (search machine depth 30 fits 5000) tt

pub overflow_add-result : goal.overflow_add-result
overflow_add-result c = fits (search machine depth 30 fits 5000) tt

pub overflow_mul-result-3 : goal.overflow_mul-result-3
overflow_mul-result-3 c = fits (search machine depth 30 fits 5000) tt

pub overflow_add-result-2 : goal.overflow_add-result-2
overflow_add-result-2 c = fits (search machine depth 30 fits 5000) tt

pub returns : goal.returns
unfolding dot
returns c = value (search machine depth 30 fits 5000) tt
