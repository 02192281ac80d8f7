-- `p4_write::write_stack` meets its contract: too little room, or all slices.
use Rattle.std.proofs.Common.{refl, rules}
use Rattle.p4_write.proofs.Writing.{stack-short, slices-room, stack-written}
use Rattle.p4_write.proofs.write_stack.Goals as goal

pub returns-then-out-need : goal.returns-then-out-need
returns-then-out-need c = search stack-short

pub write_slices-requires : goal.write_slices-requires
write_slices-requires c = search slices-room

pub returns : goal.returns
returns c =
    stack-written c.requires c.bytes.ensures c.figures.ensures c.figures-2.ensures refl c.if-out-need.false c.write_slices.ensures (search rules)
