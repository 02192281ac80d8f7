-- `footing::Ground::look_around` meets its contract. The loop's invariant: the ways from here on give what all of them give.
use Rattle.std.proofs.lemmas.Result.{err_from_is_err_and}
use Rattle.footing.proofs.Looks.{around-looking}
use Rattle.footing.proofs.Ground.look_around.Goals as goal
use Rattle.footing.proofs.Ground.look_around.Goals.{then-belongs+in_ok-n, else-belongs}

pub returns-in_err-n : goal.returns-in_err-n
returns-in_err-n c =
    let e = err_from_is_err_and c.from_residual.result c.from_residual.ensures.1 in
    rw (e.1, e.2) (search (around-looking, c.in_err-n.was))

pub loop-way-preserved : goal.loop-way-preserved
loop-way-preserved c =
    elim c.if-belongs.branch [
      | then-belongs+in_ok-n w ↦ rw w.n-is (search (around-looking, w.in_ok-n.was))
      | else-belongs w ↦ rw w.n-is (search around-looking)
    ]

pub returns : goal.returns
returns c = search around-looking
