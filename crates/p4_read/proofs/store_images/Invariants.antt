-- `p4_read::store_images` meets its contract: the loop keeps `Storing`, a slice at a time.
use Rattle.p4_read.proofs.Storing.{Storing}
use Rattle.p4_read.proofs.store_images.Given as goal

abbrev pub invariant-loop : goal.invariant-loop
invariant-loop l = Storing l.size.width l.size.height l.src l.depth l.initial.writer l.writer l.at l.counter
