-- The loop's invariant is that of `falls::ask_falls`, for the point that is the apex with another part along the line's axis.
use Rattle.integers.specs.Machine.{machine, fits, value}
use Rattle.along.specs.Facts.{step-within, rise-within}
use Rattle.falls.specs.Fits.{here-within, ranked-within}
use Rattle.falls.specs.Bodies.{same-look, same-rank}
use Rattle.falls.specs.Powers.{falls-stopped, falls-fell, falls-kept}
use Rattle.along.proofs.Alongs.{part-sized, stopped-at, from-within, along-begins, along-on}
use Rattle.along.proofs.ask_along.Goals as goal

pub overflow_add-at : goal.overflow_add-at
overflow_add-at c =
    let from = from-within c.args.probe.now.ready c.requires.0 in
    let step = step-within c.requires.0 in
    fits (search machine depth 30 fits 5000) tt

pub overflow_add-rank : goal.overflow_add-rank
overflow_add-rank c =
    let here = here-within c.args.probe.now.ready in
    let rise = rise-within c.args.probe.now.ready c.requires.0 in
    fits (search machine depth 30 fits 5000) tt

pub loop-n-init : goal.loop-n-init
loop-n-init c =
    let ready = c.args.probe.now.ready in
    let from = from-within ready c.requires.0 in
    let step = step-within c.requires.0 in
    let here = here-within ready in
    let rise = rise-within ready c.requires.0 in
    along-begins ready c.requires.0 (value (search machine depth 30 fits 5000) tt) (value (search machine depth 30 fits 5000) tt)

pub look_along-requires : goal.look_along-requires
look_along-requires c = let e = c.body-body.ensures in (rw e.0 c.args.probe.now.ready.placed, rw e.0 c.requires.0.side, same-rank e _ c.loop-n.invariant.ranked)

pub overflow_sub-at : goal.overflow_sub-at
overflow_sub-at c =
    let from = from-within c.args.probe.now.ready c.requires.0 in
    let at = part-sized c.args.probe.now.scene.apex c.args.line.axis c.loop-n.invariant.sized in
    fits (search machine depth 30 fits 5000) tt

pub overflow_add-at-in-Empty : goal.overflow_add-at-in-Empty
overflow_add-at-in-Empty c =
    let from = from-within c.args.probe.now.ready c.requires.0 in
    let at = part-sized c.args.probe.now.scene.apex c.args.line.axis c.loop-n.invariant.sized in
    fits (search machine depth 30 fits 5000) tt

pub overflow_sub-rank : goal.overflow_sub-rank
overflow_sub-rank c =
    let here = here-within c.args.probe.now.ready in
    let rank = ranked-within c.args.probe.now.ready c.loop-n.invariant.sized c.loop-n.invariant.ranked in
    fits (search machine depth 30 fits 5000) tt

pub overflow_add-rank-in-Empty : goal.overflow_add-rank-in-Empty
overflow_add-rank-in-Empty c =
    let here = here-within c.args.probe.now.ready in
    let rank = ranked-within c.args.probe.now.ready c.loop-n.invariant.sized c.loop-n.invariant.ranked in
    fits (search machine depth 30 fits 5000) tt

pub loop-n-preserved : goal.loop-n-preserved
loop-n-preserved c =
    let ready = c.args.probe.now.ready in
    let from = from-within ready c.requires.0 in
    let at = part-sized c.args.probe.now.scene.apex c.args.line.axis c.loop-n.invariant.sized in
    let here = here-within ready in
    let rank = ranked-within ready c.loop-n.invariant.sized c.loop-n.invariant.ranked in
    along-on ready c.requires.0 _ c.loop-n.invariant (same-look c.body-body.ensures _ c.look_along.ensures) c.in-Empty.is c.if-span-power.false (value (search machine depth 30 fits 5000) tt) (value (search machine depth 30 fits 5000) tt)

pub returns-in-Outside : goal.returns-in-Outside
returns-in-Outside c = stopped-at c.with_part.ensures (falls-stopped c.loop-n.invariant (same-look c.body-body.ensures _ c.look_along.ensures) c.in-Outside.is)

pub returns-in-Filled : goal.returns-in-Filled
returns-in-Filled c = falls-fell c.loop-n.invariant (same-look c.body-body.ensures _ c.look_along.ensures) c.in-Filled.is

pub returns-then-span-power : goal.returns-then-span-power
returns-then-span-power c = falls-kept c.loop-n.invariant (same-look c.body-body.ensures _ c.look_along.ensures) c.in-Empty.is c.if-span-power.true
