-- `round::ask_round` meets its contract. The loop's invariant: the pairs from here on give what the whole round gives.
use Rattle.std.proofs.Common.{rules}
use Rattle.round.proofs.Rounds.{asking, asking-few, asking-on, asking-stopped}
use Rattle.round.proofs.ask_round.Goals as goal
use Rattle.round.proofs.ask_round.Goals.{then-takes_part+in_ok-round, else-takes_part}

pub loop-number-init : goal.loop-number-init
loop-number-init c = search asking

pub ask_way-requires : goal.ask_way-requires
ask_way-requires c =
    let h = c.loop-number.invariant in
    (c.requires.0, c.requires.1, h.weighed, asking-few h c.requires.2 c.loop-number-test.true)

pub returns-in_err-round : goal.returns-in_err-round
returns-in_err-round c =
    let h = asking-stopped c.loop-number.invariant _ c.pair_at-pair.ensures c.loop-number-test.true c.takes_part.ensures c.if-takes_part.true c.ask_way.ensures c.in_err-round.was in
    search (rules, h)

pub loop-number-preserved : goal.loop-number-preserved
loop-number-preserved c =
    elim c.if-takes_part.branch [
      | then-takes_part+in_ok-round w ↦ rw w.round-is (asking-on c.loop-number.invariant _ c.pair_at-pair.ensures c.loop-number-test.true c.takes_part.ensures w.if-takes_part.true w.ask_way.ensures w.in_ok-round.was)
      | else-takes_part w ↦ rw w.round-is (search asking)
    ]

pub returns : goal.returns
returns c = search asking
