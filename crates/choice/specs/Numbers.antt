-- Numbers as the code has them: what is read back from 32 bits.
use Rattle.std.specs.Prelude.{ℤ}
use Rattle.std.proofs.Common.{to_z, of_z}
use Rattle.std.specs.Int.{w32}

-- a number of the code, read back from its bits
abbrev pub from_bits : ℤ → ℤ
from_bits z = to_z w32 (of_z w32 z)
