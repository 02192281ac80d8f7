-- `end::end_walk` meets its contract: by whether the sizes of the normal add to more than the reach.
use Rattle.end.proofs.Ends.{ends-fit}
use Rattle.end.proofs.Ended.{ending}
use Rattle.end.proofs.end_walk.Goals as goal

pub lay_triangle-frame-requires : goal.lay_triangle-frame-requires
lay_triangle-frame-requires c = search ends-fit

pub normal_of-whole-requires : goal.normal_of-whole-requires
normal_of-whole-requires c = search ends-fit

pub level_out-n-requires : goal.level_out-n-requires
level_out-n-requires c = search ends-fit

pub size-requires : goal.size-requires
size-requires c = search ends-fit

pub lay-laid-requires : goal.lay-laid-requires
lay-laid-requires c = search ends-fit

pub returns-then-size-scene : goal.returns-then-size-scene
returns-then-size-scene c = search ending

pub returns : goal.returns
returns c = search ending
