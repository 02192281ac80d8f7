-- `p4_write::write_slices` meets its contract: the loop keeps that the slices before its own are written.
use Rattle.rules.specs.P4.{slices}
use Rattle.text.specs.Put.{Put}
use Rattle.p4_write.proofs.write_slices.Given as goal

abbrev pub invariant-loop-z : goal.invariant-loop-z
invariant-loop-z l = Put l.initial.out (slices l.z l.size.width l.size.height l.bytes) l.out
