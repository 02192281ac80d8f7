-- `footing::Ground::firm_to` meets its contract. The loop's invariant: the powers from here on give what all of them give. The power doubles up to the reach, so 512 less it is the measure.
use Rattle.footing.proofs.Looks.{rising}
use Rattle.footing.proofs.Ground.firm_to.Goals as goal

pub loop-looks-init : goal.loop-looks-init
loop-looks-init c = search rising

pub returns-in-Err : goal.returns-in-Err
returns-in-Err c = search rising

pub returns-then-reach-power : goal.returns-then-reach-power
returns-then-reach-power c = search rising

pub loop-looks-preserved : goal.loop-looks-preserved
loop-looks-preserved c = search rising
