-- `p4_read::store_images` meets its contract: the loop keeps `Storing`, a slice at a time.
use Rattle.std.proofs.Common.{arith, refl, rules}
use Rattle.p4_read.proofs.Keeping.{rows_in}
use Rattle.p4_read.proofs.Storing.{storing-start, storing-some, storing-room, storing-next, storing-end}
use Rattle.p4_read.proofs.store_images.Goals as goal

pub loop-init : goal.loop-init
loop-init c = storing-start _ c.args.size.permitted c.requires refl

pub unwrap-start-requires : goal.unwrap-start-requires
unwrap-start-requires c = storing-some _ c.args.size.permitted c.requires c.loop.invariant c.loop-test.true c.find_rows.ensures

-- the rows lie inside the input and their slice inside the buffer
pub slice_bounds-copy_rows-count : goal.slice_bounds-copy_rows-count
slice_bounds-copy_rows-count c = omega (arith, rows_in c.find_rows.ensures c.unwrap-start.ensures)

pub slice_bounds-copy_rows-start : goal.slice_bounds-copy_rows-start
slice_bounds-copy_rows-start c = omega (arith, rows_in c.find_rows.ensures c.unwrap-start.ensures)

pub copy_rows-requires : goal.copy_rows-requires
copy_rows-requires c =
    storing-room _ c.args.size.permitted c.requires c.loop.invariant c.loop-test.true c.find_rows.ensures c.unwrap-start.ensures

-- the place behind the rows is a number, as they lie inside
pub overflow_add-at : goal.overflow_add-at
overflow_add-at c = omega (arith, rows_in c.find_rows.ensures c.unwrap-start.ensures, c.bytes.ensures.is)

pub loop-preserved : goal.loop-preserved
loop-preserved c =
    storing-next _ c.args.size.permitted c.requires c.loop.invariant c.loop-test.true c.find_rows.ensures c.unwrap-start.ensures c.copy_rows.ensures c.bytes.ensures

pub returns : goal.returns
returns c =
    let h = storing-end _ c.args.size.permitted c.requires c.loop.invariant c.loop-test.false in
    let k = c.loop.invariant.lent in
    search (rules, h, k)
