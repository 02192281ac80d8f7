-- `lean::side` meets its contract: a way between vectors within 2046 is within 4092.
use Rattle.laws.specs.Bounds.{bounded-is, bounded-difference}
use Rattle.lean.proofs.side.Goals as goal

pub squared-requires : goal.squared-requires
squared-requires c = bounded-is c.subtract.ensures (bounded-difference c.requires.1 c.requires.0)
