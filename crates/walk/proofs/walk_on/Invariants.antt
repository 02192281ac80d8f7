-- `walk::walk_on` meets its contract. The loop's invariant: the walk from here gives what the whole walk gives. The measure is the steps that are left.
use Prim.Native.Nat.{◌-◌}
use Rattle.walk.proofs.Walks.{Going}
use Rattle.walk.proofs.walk_on.Given as goal

abbrev pub invariant-loop-round : goal.invariant-loop-round
invariant-loop-round l = Going l.scene l.probe.bytes.now l.level l.looks l.m l.steps l.n

abbrev pub decreases-loop-round : goal.decreases-loop-round
decreases-loop-round l = l.limit - l.steps
