-- A signed parameter, read back from its bits.
use lib.IntN.{ℤ}
use mir.Syntax.{w32}
use mir.Val.{to_z, of_z}

abbrev pub read_back : ℤ → ℤ
read_back n = to_z w32 (of_z w32 n)
