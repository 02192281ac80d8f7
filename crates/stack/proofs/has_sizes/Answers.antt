-- The three sizes' tests are those of the definition.
use Rattle.integers.specs.Machine.{value}
use Rattle.stack.specs.Sides.{sizes_permitted}
use Rattle.range.specs.Judged.{judged}
use Rattle.stack.proofs.has_sizes.Goals as goal

pub returns : goal.returns
unfolding sizes_permitted
returns c = value (search judged depth 30 fits 5000) tt
