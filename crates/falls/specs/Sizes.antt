-- Sizes of what a scene holds: the apex lies in the box, the grid's ranks are small, and a sign's size is 1.
use Rattle.std.specs.Prelude.{◌≡◌, List, ℕ, ℤ, pos, negsuc}
use Rattle.std.proofs.Common.{inl, inr, lit≤}
use Rattle.integers.specs.Sizes.{Within, within-is, within-literal}
use Rattle.rules.specs.declared.Vector.{Vector}
use Rattle.rules.specs.Vectors.{dot}
use Rattle.laws.specs.Frames.{IsSign, Signs}
use Rattle.laws.specs.Bounds.{Bounded, bounded-wider}
use Rattle.solid.specs.Grid.{ranks_of, GridRanks}
use Rattle.solid.specs.Facts.{inside-bounded}
use Rattle.solid.specs.Ranks.{rank-by-grid, ranks-small}
use Rattle.falls.specs.declared.Scene.{Scene}
use Rattle.falls.specs.Scene.{Ready}

pub apex-bounded : {v : Scene} {bytes : List ℕ} → Ready v bytes → Bounded 1023 v.apex
apex-bounded h = inside-bounded h.permitted h.placed

pub apex-fits : {v : Scene} {bytes : List ℕ} → Ready v bytes → Bounded 1000000000 v.apex
apex-fits h = bounded-wider (apex-bounded h) (lit≤ tt)

pub scene-ranks : {v : Scene} {bytes : List ℕ} → Ready v bytes → GridRanks v.grid
scene-ranks {v} h = rw h.gridded (ranks-small v.solid h.permitted)

-- a rank by the scene's grid is one by its solid
pub scene-rank : {v : Scene} {bytes : List ℕ} (u : Vector) {z : ℤ} → Ready v bytes → z ≡ dot v.grid.ranks u → z ≡ dot (ranks_of v.solid) u
scene-rank {v} u h e = rank-by-grid v.solid u h.gridded e

pub sign-bounded : (z : ℤ) → IsSign z → Within 1 z
sign-bounded z (inl e) = within-is e (within-literal (pos 1))
sign-bounded z (inr e) = within-is e (within-literal (negsuc 0))

pub signs-bounded : {s : Vector} → Signs s → Bounded 1 s
signs-bounded h = record { in-x = sign-bounded _ h.of_x; in-y = sign-bounded _ h.of_y; in-z = sign-bounded _ h.of_z }
