-- What the writer's inner functions ask and answer. No public promise cites these.
use Rattle.std.specs.Prelude.{◌≡◌, List, ℕ, ◌*◌, ◌≤◌, length}
use Rattle.rules.specs.Solids.{slice_bytes}
use Rattle.rules.specs.Decimals.{decimal}
use Rattle.rules.specs.P4.{slices}
use Rattle.stack.specs.Sides.{Sides}
use Rattle.text.specs.declared.Writer.{Writer}
use Rattle.text.specs.Put.{Room}

pub record Figures (n r : ℕ) : Type 0 where
  pub is : r ≡ length (decimal n)
  pub few : r ≤ 3

-- a stack whose bytes are enough
pub record SlicesAsk (width height depth : ℕ) (bytes : List ℕ) : Type 0 where
  pub sides : Sides width height depth
  pub source : depth * slice_bytes width height ≤ length bytes

pub record SlicesRoom (width height depth : ℕ) (bytes : List ℕ) (out : Writer) : Type 0 where
  pub ask : SlicesAsk width height depth bytes
  pub room : Room out (slices depth width height bytes)
