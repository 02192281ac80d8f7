-- What a copy of rows asks, and what it leaves.
use Rattle.std.specs.Prelude.{◌≡◌, List, ℕ, zero, suc, ◌+◌, ◌-◌, ◌≤◌, ◌<◌, length, get_or, set}
use Rattle.rules.specs.Solids.{row_bytes}
use Rattle.rules.specs.P4.{padding, cut}
use Rattle.text.specs.declared.Writer.{Writer}

pub record Padding (width r : ℕ) : Type 0 where
  pub is : r ≡ padding width
  pub small : r < 8

-- there are so many bytes, and room for them
pub record CopyRoom (src : List ℕ) (out : Writer) (count : ℕ) : Type 0 where
  pub source : count ≤ length src
  pub target : out.at + count ≤ length out.out.now

-- so many rows at a place, each with its last byte cut
unfoldable pub cleared : ℕ → ℕ → List ℕ → ℕ → List ℕ
cleared zero width out at = out
cleared (suc more) width out at =
    let last = at + (row_bytes width - 1) in
    cleared more width (set out last (cut width (get_or out last 0))) (at + row_bytes width)
