-- Each part is that of the definition.
use Rattle.integers.specs.Machine.{machine, value}
use Rattle.rules.specs.Vectors.{minus}
use Rattle.laws.specs.Parts.{vector-eq}
use Rattle.space.proofs.negate.Goals as goal

pub returns : goal.returns
unfolding minus
returns c = vector-eq (value (search machine depth 30 fits 5000) tt) (value (search machine depth 30 fits 5000) tt) (value (search machine depth 30 fits 5000) tt)
