-- `inputs::sign_of` meets its contract: by the bit.
use Rattle.inputs.proofs.Frames.{sign_zero, sign-more}
use Rattle.inputs.proofs.sign_of.Goals as goal

pub returns-then-bit-eq0 : goal.returns-then-bit-eq0
returns-then-bit-eq0 c = search sign_zero

pub returns-else-bit-eq0 : goal.returns-else-bit-eq0
returns-else-bit-eq0 c = search sign-more
