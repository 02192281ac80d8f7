-- `p4_read::judge_images` meets its contract: the loop keeps `Keeping`, an image at a time.
use Rattle.std.proofs.Common.{arith, rules}
use Rattle.p4_read.proofs.Keeping.{place_fits, keeping_start, keeping-end, keeping-all, keeping-full, keeping-next}
use Rattle.p4_read.proofs.judge_images.Goals as goal

pub loop-depth-init : goal.loop-depth-init
loop-depth-init c = search keeping_start

pub returns-then-at-src : goal.returns-then-at-src
returns-then-at-src c = search keeping-end

pub loop-depth-preserved : goal.loop-depth-preserved
loop-depth-preserved c =
    keeping-next c.loop-depth.invariant c.loop-depth-test.true c.if-at-src.false c.find_rows.ensures (search rules) c.bytes.ensures

-- the place behind the image's rows is a number, as they lie inside the input
pub overflow_add-at : goal.overflow_add-at
overflow_add-at c = place_fits c.find_rows.ensures (search rules) c.bytes.ensures (omega arith)

pub returns-then-at-src-2 : goal.returns-then-at-src-2
returns-then-at-src-2 c = search keeping-full

pub returns : goal.returns
returns c = search keeping-all
