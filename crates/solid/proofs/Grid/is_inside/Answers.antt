-- The three sides' tests are those of the definition.
use Rattle.integers.specs.Machine.{value}
use Rattle.rules.specs.Solids.{in_box}
use Rattle.range.specs.Judged.{judged}
use Rattle.solid.proofs.Grid.is_inside.Goals as goal

pub returns : goal.returns
unfolding in_box
returns c = value (search judged depth 30 fits 5000) tt
