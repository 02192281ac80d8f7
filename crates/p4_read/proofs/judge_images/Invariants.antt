-- `p4_read::judge_images` meets its contract: the loop keeps `Keeping`, an image at a time.
use Rattle.p4_read.proofs.Keeping.{Keeping}
use Rattle.p4_read.proofs.judge_images.Given as goal

abbrev pub invariant-loop-depth : goal.invariant-loop-depth
invariant-loop-depth l = Keeping l.size.width l.size.height l.src l.at l.depth
