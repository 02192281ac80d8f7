-- `root` goes up while the next is not too large. 32769 is, so what is left up to it is the measure.
use Prim.Native.Nat.{◌-◌}
use Rattle.display.specs.Parts.{From}
use Rattle.display.proofs.Scale.root.Given as goal

abbrev pub invariant-loop-self : goal.invariant-loop-self
invariant-loop-self l = From l.self.sum l.t l.m

abbrev pub decreases-loop-self : goal.decreases-loop-self
decreases-loop-self l = 32769 - l.m
