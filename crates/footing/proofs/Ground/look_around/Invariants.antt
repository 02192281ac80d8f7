-- `footing::Ground::look_around` meets its contract. The loop's invariant: the ways from here on give what all of them give.
use Rattle.footing.proofs.Looks.{Looking}
use Rattle.footing.proofs.Ground.look_around.Given as goal

abbrev pub invariant-loop-way : goal.invariant-loop-way
invariant-loop-way l = Looking l.self l.power l.looks l.way-index l.n
