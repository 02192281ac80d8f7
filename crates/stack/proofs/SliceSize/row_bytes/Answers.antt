-- A part of a byte counts as one; 263 / 8 is 32.
use Rattle.stack.proofs.Sizes.{row-bytes}
use Rattle.stack.proofs.SliceSize.row_bytes.Goals as goal

pub returns : goal.returns
returns c = rw c.div_ceil.ensures (row-bytes c.args.self.permitted.wide)
