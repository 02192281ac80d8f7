-- Each part is a minor, whose numbers are read back from bits.
use Rattle.integers.specs.Machine.{machine, known-stands, value}
use Rattle.rules.specs.Vectors.{cross}
use Rattle.laws.specs.Parts.{vector-eq}
use Rattle.space.proofs.cross.Goals as goal

pub returns : goal.returns
unfolding cross
returns c = vector-eq (value (search (machine, known-stands) depth 30 fits 5000) tt) (value (search (machine, known-stands) depth 30 fits 5000) tt) (value (search (machine, known-stands) depth 30 fits 5000) tt)
