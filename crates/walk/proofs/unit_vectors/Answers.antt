-- `walk::unit_vectors` meets its contract: signs are 1 or -1, so everything fits.
use Rattle.walk.proofs.Units.{product-fits, vectors-made}
use Rattle.walk.proofs.unit_vectors.Goals as goal

pub overflow_mul-a : goal.overflow_mul-a
overflow_mul-a c = search product-fits

pub overflow_mul-b : goal.overflow_mul-b
overflow_mul-b c = search product-fits

pub overflow_mul-c : goal.overflow_mul-c
overflow_mul-c c = search product-fits

pub returns : goal.returns
returns c = search vectors-made
