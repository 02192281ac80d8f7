-- `put_replies` answers line by line. What is left of the text is the measure.
use lib.ListN.{length}
use Rattle.session.proofs.Loop.{Replying}
use Rattle.session.proofs.put_replies.Given as goal

abbrev pub invariant-loop-rest : goal.invariant-loop-rest
invariant-loop-rest l = Replying l.initial.out l.text l.out l.rest

abbrev pub decreases-loop-rest : goal.decreases-loop-rest
decreases-loop-rest l = length l.rest
