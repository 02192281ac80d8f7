-- The bits of a stack's lent bytes, counted from the first byte's highest.
use Rattle.std.specs.Prelude.{Bool, List, ℕ, ◌-◌, ◌*◌, ◌/◌, ◌%◌, ◌^◌, ◌<◌, eqb, pos, nat_abs, length, get_or}
use Rattle.rules.specs.declared.Vector.{Vector}
use Rattle.rules.specs.declared.Stack.{Stack}
use Rattle.rules.specs.Vectors.{vector}
use Rattle.rules.specs.Solids.{row_bytes, slice_bytes}

-- the product with this is the place of a voxel's bit: the bits of a column, of a row and of a slice
unfoldable pub stack_ranks : Stack → Vector
stack_ranks k = vector (pos 1) (pos (8 * row_bytes (nat_abs k.width))) (pos (8 * slice_bytes (nat_abs k.width) (nat_abs k.height)))

unfoldable pub bit_at : List ℕ → ℕ → Bool
bit_at bytes i = eqb (get_or bytes (i / 8) 0 / 2 ^ (7 - i % 8) % 2) 1

-- it is in the lent bytes
pub record BitHeld (bytes : List ℕ) (place : ℕ) : Type 0 where
  pub held : place / 8 < length bytes
