-- The loop's invariant: what is left of the powers, after n looks, gives what all of them give, and the rank is the point's.
-- A point that was looked at lies in the box, so the next one is near it.
use Rattle.integers.specs.Machine.{machine, fits, value}
use Rattle.solid.specs.Facts.{empty-bounded}
use Rattle.falls.specs.Sizes.{apex-bounded}
use Rattle.falls.specs.Fits.{here-within, ranked-within, way-fits, point-fits, twice-fits}
use Rattle.falls.specs.Bodies.{same-look, same-rank}
use Rattle.falls.specs.Powers.{falls-begins, falls-on, falls-stopped, falls-fell, falls-kept}
use Rattle.falls.proofs.Probe.ask_falls.Goals as goal

pub add-at-requires : goal.add-at-requires
add-at-requires c = way-fits c.args.self.now.ready c.requires.0

pub overflow_add-rank : goal.overflow_add-rank
overflow_add-rank c =
    let here = here-within c.args.self.now.ready in
    let rise = ranked-within c.args.self.now.ready c.requires.0 c.requires.1 in
    fits (search machine depth 30 fits 5000) tt

pub loop-n-init : goal.loop-n-init
loop-n-init c =
    let ready = c.args.self.now.ready in
    let here = here-within ready in
    let rise = ranked-within ready c.requires.0 c.requires.1 in
    falls-begins (apex-bounded ready) c.requires.0 ready.ranked c.requires.1 c.add-at.ensures (value (search machine depth 30 fits 5000) tt)

pub look_ranked-requires : goal.look_ranked-requires
look_ranked-requires c = same-rank c.body-body.ensures _ c.loop-n.invariant.ranked

pub subtract-requires : goal.subtract-requires
subtract-requires c = point-fits c.args.self.now.ready c.loop-n.invariant.sized

pub add-at-requires-in-Empty : goal.add-at-requires-in-Empty
add-at-requires-in-Empty c = twice-fits c.args.self.now.ready c.loop-n.invariant.sized c.subtract.ensures

pub overflow_sub-rank : goal.overflow_sub-rank
overflow_sub-rank c =
    let here = here-within c.args.self.now.ready in
    let rank = ranked-within c.args.self.now.ready c.loop-n.invariant.sized c.loop-n.invariant.ranked in
    fits (search machine depth 30 fits 5000) tt

pub overflow_add-rank-in-Empty : goal.overflow_add-rank-in-Empty
overflow_add-rank-in-Empty c =
    let here = here-within c.args.self.now.ready in
    let rank = ranked-within c.args.self.now.ready c.loop-n.invariant.sized c.loop-n.invariant.ranked in
    fits (search machine depth 30 fits 5000) tt

pub loop-n-preserved : goal.loop-n-preserved
loop-n-preserved c =
    let ready = c.args.self.now.ready in
    let here = here-within ready in
    let rank = ranked-within ready c.loop-n.invariant.sized c.loop-n.invariant.ranked in
    let seen = same-look c.body-body.ensures _ c.look_ranked.ensures in
    falls-on c.loop-n.invariant seen (apex-bounded ready) (empty-bounded ready.permitted seen c.in-Empty.is) ready.ranked ready.span-high c.in-Empty.is c.if-span-power.false c.subtract.ensures c.add-at-in-Empty.ensures
    (value (search machine depth 30 fits 5000) tt)

pub returns-in-Outside : goal.returns-in-Outside
returns-in-Outside c = falls-stopped c.loop-n.invariant (same-look c.body-body.ensures _ c.look_ranked.ensures) c.in-Outside.is

pub returns-in-Filled : goal.returns-in-Filled
returns-in-Filled c = falls-fell c.loop-n.invariant (same-look c.body-body.ensures _ c.look_ranked.ensures) c.in-Filled.is

pub returns-then-span-power : goal.returns-then-span-power
returns-then-span-power c = falls-kept c.loop-n.invariant (same-look c.body-body.ensures _ c.look_ranked.ensures) c.in-Empty.is c.if-span-power.true
