-- Three sizes of at most 10^9 add up within 32 bits. Each is that of a part, which is read back from bits.
use mathlib.Core.Path.{◌≡◌, ap₂, ◌∙◌}
use Prim.Native.Nat.{ℕ, ◌+◌}
use lib.IntN.{ℤ, nat_abs}
use mir.Syntax.{w32}
use mir.Val.{to_z, of_z}
use Rattle.integers.specs.Sizes.{Within}
use Rattle.integers.specs.Machine.{machine, value}
use Rattle.rules.specs.Vectors.{size}
use Rattle.space.proofs.size.Goals as goal

-- what a call says: r is the size of the part x, read from bits
abbrev Read : ℤ → ℕ → Type 0
Read x r = r ≡ nat_abs (to_z w32 (of_z w32 x))

abbrev Low : ℤ → Type 0
Low x = Within 1000000000 x

part : {x : ℤ} {r : ℕ} → Read x r → Low x → r ≡ nat_abs x
part e h = e ∙ value (search machine depth 30 fits 5000) tt

sum : {x y z : ℤ} {r s t : ℕ} → Read x r → Read y s → Read z t → Low x → Low y → Low z → r + s + t ≡ nat_abs x + nat_abs y + nat_abs z
sum e f g h k l = ap₂ ◌+◌ (ap₂ ◌+◌ (part e h) (part f k)) (part g l)

pub returns : goal.returns
unfolding size
returns c = search sum
