-- `end::walk_to_end` meets its contract: by whether the rounds came to an end.
use Rattle.std.proofs.lemmas.Result.{err_from_is_err_and}
use Rattle.end.proofs.Ended.{end-sound, walked-refused, walked-ended}
use Rattle.end.proofs.walk_to_end.Goals as goal

pub returns-in_err-end : goal.returns-in_err-end
returns-in_err-end c =
    let p = err_from_is_err_and c.from_residual.result c.from_residual.ensures.1 in
    rw (p.1, p.2) (walked-refused c.walk_on.ensures c.in_err-end.was)

pub end_walk-requires : goal.end_walk-requires
end_walk-requires c = end-sound c.walk_on.ensures c.in_ok-end.was

pub returns : goal.returns
returns c = walked-ended c.args.probe.now.bytes.now c.walk_on.ensures c.in_ok-end.was c.end_walk.ensures
