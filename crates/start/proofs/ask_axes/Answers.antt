-- `start::ask_axes` meets its contract. The loop's invariant: the axes from here on give what all axes give.
use Rattle.std.proofs.lemmas.Result.{err_from_is_err_and}
use Rattle.falls.specs.Sizes.{scene-ranks}
use Rattle.start.proofs.Turns.{one-axis, asking}
use Rattle.start.proofs.ask_axes.Goals as goal

pub line_of-line-requires : goal.line_of-line-requires
line_of-line-requires c = let ready = c.args.probe.now.ready in (scene-ranks ready, ready.signed)

pub loop-axis-init : goal.loop-axis-init
loop-axis-init c = search asking

pub ask_minus-asked-requires : goal.ask_minus-asked-requires
ask_minus-asked-requires c = search one-axis

pub returns-in_err-told : goal.returns-in_err-told
returns-in_err-told c =
    let p = err_from_is_err_and c.from_residual.result c.from_residual.ensures.1 in
    rw (p.1, p.2) (search (asking, c.in_err-told.ensures))

pub loop-axis-preserved : goal.loop-axis-preserved
loop-axis-preserved c = search (asking, c.in_ok-told.ensures)

pub returns : goal.returns
returns c = search asking
