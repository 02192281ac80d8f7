-- `walk::walk_on` meets its contract. The loop's invariant: the walk from here gives what the whole walk gives. The measure is the steps that are left.
use Rattle.walk.proofs.Units.{scene-fits}
use Rattle.walk.proofs.Walks.{going-begins, walks, going-small, walks-on}
use Rattle.walk.proofs.walk_on.Goals as goal

pub unit_vectors-m-requires : goal.unit_vectors-m-requires
unit_vectors-m-requires c = search scene-fits

pub loop-round-init : goal.loop-round-init
loop-round-init c = search going-begins

pub returns-in-Err : goal.returns-in-Err
returns-in-Err c = search walks

pub returns-in_default : goal.returns-in_default
returns-in_default c = search walks

pub returns-then-steps-limit : goal.returns-then-steps-limit
returns-then-steps-limit c = search walks

pub step_by-requires : goal.step_by-requires
step_by-requires c = search going-small

pub loop-round-preserved : goal.loop-round-preserved
loop-round-preserved c = search walks-on
