-- `p4_read::read_images` meets its contract: by what the images are judged to, and by the lent buffer's length.
use Rattle.std.proofs.Common.{arith}
use Rattle.std.proofs.lemmas.Result.{err_from_is_err_and}
use Rattle.p4_read.proofs.Reading.{images-refused, depth-few, stack-small, store-room, stack-stored, stack-short}
use Rattle.p4_read.proofs.read_images.Goals as goal

pub returns-in_err-depth : goal.returns-in_err-depth
returns-in_err-depth c =
    let p = err_from_is_err_and c.from_residual.result c.from_residual.ensures.1 in
    rw (p.1, p.2) (images-refused c.args.size.permitted c.requires _ c.in_err-depth.ensures)

-- 256 slices take 2,097,152 bytes at most
pub overflow_mul-bytes : goal.overflow_mul-bytes
overflow_mul-bytes c = omega (arith, stack-small c.args.size.permitted c.requires c.in_ok-depth.ensures c.bytes.ensures)

pub store_images-requires : goal.store_images-requires
store_images-requires c = search (store-room, c.in_ok-depth.ensures)

pub returns-then-out-bytes : goal.returns-then-out-bytes
returns-then-out-bytes c = search (stack-short, c.in_ok-depth.ensures)

pub stack_of-requires : goal.stack_of-requires
stack_of-requires c = depth-few c.args.size.permitted c.requires c.in_ok-depth.ensures c.bytes.ensures

pub returns : goal.returns
returns c = stack-stored c.args.size.permitted c.requires c.in_ok-depth.ensures c.bytes.ensures (omega arith) c.store_images.ensures c.stack_of.ensures
