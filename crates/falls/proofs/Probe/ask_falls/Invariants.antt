-- The loop's invariant: what is left of the powers, after n looks, gives what all of them give, and the rank is the point's.
-- A point that was looked at lies in the box, so the next one is near it.
use Prim.Native.Nat.{◌-◌}
use Rattle.rules.specs.Solids.{look}
use Rattle.solid.specs.Grid.{ranks_of}
use Rattle.falls.specs.Falls.{Falling}
use Rattle.falls.proofs.Probe.ask_falls.Given as goal

abbrev pub invariant-loop-n : goal.invariant-loop-n
invariant-loop-n l = let s = l.fn.self.scene in Falling (look s.solid l.fn.self.bytes.now) (ranks_of s.solid) s.apex l.fn.u s.span l.fn.looks l.power l.n l.at l.rank

abbrev pub decreases-loop-n : goal.decreases-loop-n
decreases-loop-n l = 512 - l.power
