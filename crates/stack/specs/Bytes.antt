-- How many bytes rows and slices take.
use Rattle.std.specs.Prelude.{◌≡◌, ℕ, ◌≤◌}
use Rattle.rules.specs.Solids.{row_bytes, slice_bytes}
use Rattle.stack.specs.Sides.{Side}

-- the sides of a slice; it may have no row
pub record SliceSides (width height : ℕ) : Type 0 where
  pub wide : Side width
  pub high : height ≤ 256

pub record RowBytes (width r : ℕ) : Type 0 where
  pub is : r ≡ row_bytes width
  pub some : 1 ≤ r
  pub small : r ≤ 32

pub record SliceBytes (width height r : ℕ) : Type 0 where
  pub is : r ≡ slice_bytes width height
  pub small : r ≤ 8192
