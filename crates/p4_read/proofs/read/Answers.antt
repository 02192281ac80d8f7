-- `p4_read::read` meets its contract: a header that is refused, or the images of its size.
use Rattle.std.proofs.lemmas.Result.{err_from_is_err_and}
use Rattle.p4_read.proofs.Reading.{first-sizes, first-sides, read-refused}
use Rattle.p4_read.proofs.read.Goals as goal

pub returns-in_err-first : goal.returns-in_err-first
returns-in_err-first c =
    let p = err_from_is_err_and c.from_residual.result c.from_residual.ensures.1 in
    rw (p.1, p.2) (read-refused _ c.in_err-first.ensures)

pub invariant_of-size : goal.invariant_of-size
invariant_of-size c = record { permitted = first-sides c.in_ok-first.ensures }

pub read_images-requires : goal.read_images-requires
read_images-requires c = first-sizes c.in_ok-first.ensures
