-- A solid's grid: the sides of its box, and the vector by which its voxels are ranked. A voxel of the box is filled by its rank alone.
use Rattle.std.specs.Prelude.{Bool, List, ℕ, ℤ, pos, nat_abs, ◌≤ℤ◌}
use Rattle.std.specs.Int.Signed.{lt_z}
use Rattle.integers.specs.Sizes.{Within}
use Rattle.rules.specs.declared.Vector.{Vector}
use Rattle.rules.specs.declared.Solid.{Solid}
use Rattle.rules.specs.declared.Solid.TheVariants.{Wedge as IsWedge, Stack as IsStack}
use Rattle.rules.specs.Vectors.{vector}
use Rattle.rules.specs.declared.Axis.{Axis}
use Rattle.rules.specs.declared.Axis.TheVariants.{Axis0 as axis0, Axis1 as axis1, Axis2 as axis2}
use Rattle.stack.specs.Bits.{stack_ranks, bit_at, BitHeld}
use Rattle.solid.specs.declared.Grid.{Grid}

-- a voxel's rank is its product with this: n·v of a wedge, the place of its bit in a stack
abbrev pub ranks_of : Solid → Vector
ranks_of (IsWedge w) = vector w.a w.b w.c
ranks_of (IsStack k) = stack_ranks k

abbrev pub grid : ℕ → ℕ → ℕ → Vector → Grid
grid a b c r = record { width = a; height = b; depth = c; ranks = r }

abbrev pub grid_of : Solid → Grid
grid_of (IsWedge w) = grid 1024 1024 1024 (ranks_of (IsWedge w))
grid_of (IsStack k) = grid (nat_abs k.width) (nat_abs k.height) (nat_abs k.depth) (ranks_of (IsStack k))

-- the side along an axis
abbrev pub side_at : Grid → Axis → ℕ
side_at g axis0 = g.width
side_at g axis1 = g.height
side_at g axis2 = g.depth

-- as whole numbers
abbrev pub sides_of : Grid → Vector
sides_of g = vector (pos g.width) (pos g.height) (pos g.depth)

-- so small that products with the points near the box fit
pub record GridRanks (g : Grid) : Type 0 where
  pub in-x : Within 1000 g.ranks.x
  pub in-y : Within 1000 g.ranks.y
  pub in-z : Within 65536 g.ranks.z

-- whether the voxel of a rank is filled
abbrev pub filled_at : Solid → List ℕ → ℤ → Bool
filled_at (IsWedge w) bytes z = lt_z z w.h
filled_at (IsStack k) bytes z = bit_at bytes (nat_abs z)

-- a rank of a stack is a bit of the lent bytes
abbrev pub RankHeld : Solid → List ℕ → ℤ → Type 0
RankHeld (IsWedge w) bytes z = Unit {0}
RankHeld (IsStack k) bytes z = (pos 0 ≤ℤ z) × BitHeld bytes (nat_abs z)
