-- `p4_write::write_slices` meets its contract: the loop keeps that the slices before its own are written.
use Rattle.std.proofs.Common.{arith}
use Rattle.p4_write.proofs.Writing.{slices-start, header-room, copy-room, slices-more}
use Rattle.p4_write.proofs.write_slices.Goals as goal

pub loop-z-init : goal.loop-z-init
loop-z-init c = search slices-start

pub put_header-requires : goal.put_header-requires
put_header-requires c = header-room c.requires c.loop-z.invariant (omega arith)

pub copy_rows-requires : goal.copy_rows-requires
copy_rows-requires c = copy-room c.requires c.loop-z.invariant (omega arith) c.bytes.ensures c.put_header.ensures _ (omega arith)

pub loop-z-preserved : goal.loop-z-preserved
loop-z-preserved c =
    slices-more c.requires c.loop-z.invariant (omega arith) c.bytes.ensures c.put_header.ensures c.copy_rows.ensures
