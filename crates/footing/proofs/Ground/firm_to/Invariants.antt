-- `footing::Ground::firm_to` meets its contract. The loop's invariant: the powers from here on give what all of them give. The power doubles up to the reach, so 512 less it is the measure.
use Prim.Native.Nat.{◌-◌}
use Rattle.footing.proofs.Looks.{Rising}
use Rattle.footing.proofs.Ground.firm_to.Given as goal

abbrev pub invariant-loop-looks : goal.invariant-loop-looks
invariant-loop-looks l = Rising l.self l.reach l.looks l.last l.power

abbrev pub decreases-loop-looks : goal.decreases-loop-looks
decreases-loop-looks l = 512 - l.power
