-- `call::end_call` meets its contract: a call that is no check walks to the end.
use mathlib.Core.Path.{sym, ap, ◌∙◌}
use Rattle.std.proofs.lemmas.Result.{err_from_is_err_and}
use Rattle.call.specs.Calls.{walked}
use Rattle.call.proofs.Answers.{walks-on}
use Rattle.call.proofs.end_call.Goals as goal

pub returns-in_err-accepted : goal.returns-in_err-accepted
returns-in_err-accepted c =
    let p = err_from_is_err_and c.from_residual.result c.from_residual.ensures.1 in
    rw (p.1, p.2) (ap walked (sym c.in_err-accepted.was) ∙ walks-on c.args.probe.now.scene c.args.probe.now.bytes.now c.in_default.not-Check c.walk_to_end.ensures)

pub returns : goal.returns
returns c = ap walked (sym c.in_ok-accepted.was) ∙ walks-on c.args.probe.now.scene c.args.probe.now.bytes.now c.in_default.not-Check c.walk_to_end.ensures
