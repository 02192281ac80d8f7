-- A row's bytes, once for each row.
use Rattle.stack.proofs.Sizes.{slice_fits, slice-bytes}
use Rattle.stack.proofs.SliceSize.bytes.Goals as goal

pub overflow_mul-result : goal.overflow_mul-result
overflow_mul-result c = search slice_fits

pub returns : goal.returns
returns c = search slice-bytes
