-- Points near the box, and their ranks, fit in 32 bits.
use Rattle.std.specs.Prelude.{◌≡◌, List, ℕ, ◌*◌, ℤ}
use Rattle.std.proofs.Common.{lit≤}
use Rattle.integers.specs.Sizes.{Within, within-is, within_wider}
use Rattle.rules.specs.declared.Vector.{Vector}
use Rattle.rules.specs.Vectors.{◌⊖◌, dot}
use Rattle.laws.specs.Bounds.{Bounded, bounded-is, bounded-wider, bounded-difference}
use Rattle.solid.specs.declared.Grid.{Grid}
use Rattle.solid.specs.Grid.{ranks_of, GridRanks}
use Rattle.solid.specs.Ranks.{rank-within}
use Rattle.falls.specs.declared.Scene.{Scene}
use Rattle.falls.specs.Scene.{Ready}
use Rattle.falls.specs.Sizes.{apex-bounded, apex-fits}

pub ranks-bounded : {g : Grid} → GridRanks g → Bounded 65536 g.ranks
ranks-bounded h = record { in-x = within_wider h.in-x (lit≤ tt); in-y = within_wider h.in-y (lit≤ tt); in-z = h.in-z }

module _ {v : Scene} {bytes : List ℕ} (h : Ready v bytes) where
  pub here-within : Within (67536 * 1023) v.here
  here-within = within-is h.ranked (rank-within v.solid h.permitted (apex-bounded h))

  pub ranked-within : {n : ℕ} {a : Vector} {z : ℤ} → Bounded n a → z ≡ dot (ranks_of v.solid) a → Within (67536 * n) z
  ranked-within b e = within-is e (rank-within v.solid h.permitted b)

  pub way-fits : {u : Vector} → Bounded 2046 u → Bounded 1000000000 v.apex × Bounded 1000000000 u
  way-fits b = (apex-fits h, bounded-wider b (lit≤ tt))

  module _ {at : Vector} (b : Bounded 3069 at) where
    pub point-fits : Bounded 1000000000 at × Bounded 1000000000 v.apex
    point-fits = (bounded-wider b (lit≤ tt), apex-fits h)

    pub twice-fits : {gone : Vector} → gone ≡ at ⊖ v.apex → Bounded 1000000000 at × Bounded 1000000000 gone
    twice-fits e = (bounded-wider b (lit≤ tt), bounded-is e (bounded-wider (bounded-difference b (apex-bounded h)) (lit≤ tt)))
