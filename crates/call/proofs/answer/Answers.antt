-- `call::answer` meets its contract: by how far it came, through the inputs, the start, or to its end.
use Rattle.std.proofs.lemmas.Result.{err_from_is_err_and}
use Rattle.call.proofs.Answers.{begun-countable, made-refused, made-stopped, made-ended}
use Rattle.call.proofs.answer.Goals as goal

pub returns-in_err-probe : goal.returns-in_err-probe
returns-in_err-probe c =
    let p = err_from_is_err_and c.from_residual.result c.from_residual.ensures.1 in
    rw (p.1, p.2) (made-refused c.ranges.frame c.ranges.reach c.from-begin.ensures c.judge.ensures c.in_err-probe.was)

pub returns-in_err-begun : goal.returns-in_err-begun
returns-in_err-begun c =
    let p = err_from_is_err_and c.from_residual-in_err-begun.result c.from_residual-in_err-begun.ensures.1 in
    rw (p.1, p.2) (made-stopped c.ranges.frame c.ranges.reach c.from-begin.ensures c.judge.ensures c.in_ok-probe.was c.begin_rounds.ensures c.in_err-begun.was)

pub end_call-requires : goal.end_call-requires
end_call-requires c = begun-countable c.in_ok-probe.probe.ready.reach-high c.begin_rounds.ensures c.in_ok-begun.was

pub returns : goal.returns
returns c =
    made-ended c.ranges.frame c.ranges.reach c.from-begin.ensures c.judge.ensures c.in_ok-probe.was c.begin_rounds.ensures c.in_ok-begun.was c.end_call.ensures
