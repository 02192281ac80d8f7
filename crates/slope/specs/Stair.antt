-- A stack of nine voxels a side, filled exactly where x + y + z < 12. It is an example: nothing depends on it.
use Rattle.std.specs.Prelude.{List, [], ◌∷◌, ◌++◌, ℕ, zero, suc, ◌-◌, ◌*◌, ◌/◌, ◌^◌, min, pos}
use Rattle.rules.specs.declared.Stack.{Stack}

abbrev pub stair : Stack
stair = record { width = pos 9; height = pos 9; depth = pos 9 }

-- two bytes, of which the first k of nine bits are filled
unfoldable pub row : ℕ → List ℕ
row k = (256 - 2 ^ (8 - k)) ∷ 128 * (k / 9) ∷ []

-- the rows from y + z = sum on
unfoldable pub rows : ℕ → ℕ → List ℕ
rows zero sum = []
rows (suc n) sum = row (min 9 (12 - sum)) ++ rows n (suc sum)

unfoldable pub slices : ℕ → ℕ → List ℕ
slices zero z = []
slices (suc n) z = rows 9 z ++ slices n (suc z)

unfoldable pub stair_bytes : List ℕ
stair_bytes = slices 9 0
