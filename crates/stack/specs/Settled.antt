-- What `row_bytes` and `slice_bytes` ensure settles their answers. The others have equations.
use Rattle.std.specs.Prelude.{◌≡◌, ℕ}
use Rattle.std.proofs.Common.{sym, ◌∙◌}
use Rattle.stack.specs.Bytes.{RowBytes, SliceBytes}

pub row-bytes-settled : {width m n : ℕ} → RowBytes width m → RowBytes width n → m ≡ n
row-bytes-settled h k = h.is ∙ sym k.is

pub slice-bytes-settled : {width height m n : ℕ} → SliceBytes width height m → SliceBytes width height n → m ≡ n
slice-bytes-settled h k = h.is ∙ sym k.is
