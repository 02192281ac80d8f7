-- Both tests are those of the parameters.
use Rattle.integers.specs.Machine.{value}
use Rattle.rules.specs.Solids.{between}
use Rattle.range.specs.Judged.{judged}
use Rattle.range.proofs.is_between.Goals as goal

pub returns : goal.returns
unfolding between
returns c = value (search judged depth 30 fits 5000) tt
