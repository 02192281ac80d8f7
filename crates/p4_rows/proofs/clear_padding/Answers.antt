-- `p4_rows::clear_padding` meets its contract: the loop keeps `Clearing`, a row at a time.
use Rattle.std.proofs.Common.{arith}
use Rattle.p4_rows.proofs.Clearing.{clearing-start, clearing-room, clearing-next, clearing-end}
use Rattle.p4_rows.proofs.clear_padding.Goals as goal

pub loop-init : goal.loop-init
loop-init c = search clearing-start

pub overflow_add-last : goal.overflow_add-last
overflow_add-last c = omega (arith, clearing-room c.loop.invariant c.loop-test.true c.row_bytes-bytes.ensures)

pub bounds-out-last : goal.bounds-out-last
bounds-out-last c = omega (arith, clearing-room c.loop.invariant c.loop-test.true c.row_bytes-bytes.ensures)

pub overflow_add-start : goal.overflow_add-start
overflow_add-start c = omega (arith, clearing-room c.loop.invariant c.loop-test.true c.row_bytes-bytes.ensures)

pub loop-preserved : goal.loop-preserved
loop-preserved c = search clearing-next

pub returns : goal.returns
returns c = search clearing-end
