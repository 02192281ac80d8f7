-- The four numbers' tests are those of the definition.
use Rattle.integers.specs.Machine.{value}
use Rattle.rules.specs.Solids.{permitted_wedge}
use Rattle.range.specs.Judged.{judged}
use Rattle.solid.proofs.is_permitted_wedge.Goals as goal

pub returns : goal.returns
unfolding permitted_wedge
returns c = value (search judged depth 30 fits 5000) tt
