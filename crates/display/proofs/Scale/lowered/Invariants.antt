-- `lowered` goes down while m is too large. Zero is not, so m is the measure.
use Prim.Native.Nat.{◌≤◌}
use Rattle.display.proofs.Scale.lowered.Given as goal

abbrev pub invariant-loop-self : goal.invariant-loop-self
invariant-loop-self l = l.m ≤ 32769

abbrev pub decreases-loop-self : goal.decreases-loop-self
decreases-loop-self l = l.m
