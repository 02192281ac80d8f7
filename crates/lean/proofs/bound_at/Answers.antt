-- `lean::bound_at` meets its contract: what was measured bounds the triangle and the normal.
use lib.Dec.{lit≤}
use Rattle.laws.specs.Bounds.{bounded-wider}
use Rattle.lean.specs.Sizes.{measured}
use Rattle.lean.proofs.bound_at.Goals as goal

pub spread_of-spread-requires : goal.spread_of-spread-requires
spread_of-spread-requires c = (measured c.requires.0).triangle-low

pub squared-square-requires : goal.squared-square-requires
squared-square-requires c = bounded-wider (measured c.requires.0).normal-low (lit≤ tt)
