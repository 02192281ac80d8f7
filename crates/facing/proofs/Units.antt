-- Sizes of a unit vector, its opposite, and either laid in.
use mathlib.Core.Path.{◌≡◌}
use lib.Dec.{lit≤}
use Rattle.rules.specs.declared.Vector.{Vector}
use Rattle.rules.specs.Vectors.{minus, lay}
use Rattle.laws.specs.Frames.{Signs}
use Rattle.laws.specs.Bounds.{Bounded, bounded-is, bounded-wider, bounded-opposite, bounded-lay}
use Rattle.falls.specs.Sizes.{signs-bounded}

pub unit-fits : {e : Vector} → Bounded 1 e → Bounded 1000000000 e
unit-fits h = bounded-wider h (lit≤ tt)

pub opposite-unit : {e w : Vector} → Bounded 1 e → w ≡ minus e → Bounded 1 w
opposite-unit h b = bounded-is b (bounded-opposite h)

pub laid-unit : {s e u : Vector} → Signs s → Bounded 1 e → u ≡ lay s e → Bounded 1 u
laid-unit g h a = bounded-is a (bounded-lay (signs-bounded g) h)

pub ruleset fitting = (signs-bounded, unit-fits, opposite-unit, laid-unit)
