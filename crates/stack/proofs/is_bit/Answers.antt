-- The definition's own expression, of a byte that is lent.
use mathlib.Core.Path.{refl}
use Rattle.stack.specs.Bits.{bit_at}
use Rattle.stack.proofs.is_bit.Goals as goal

pub returns : goal.returns
unfolding bit_at
returns c = refl
