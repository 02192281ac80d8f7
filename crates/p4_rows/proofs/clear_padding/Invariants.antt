-- `p4_rows::clear_padding` meets its contract: the loop keeps `Clearing`, a row at a time.
use Rattle.p4_rows.proofs.Clearing.{Clearing}
use Rattle.p4_rows.proofs.clear_padding.Given as goal

abbrev pub invariant-loop : goal.invariant-loop
invariant-loop l = Clearing l.initial.out l.at l.fn.size.width l.end l.out l.start l.counter
