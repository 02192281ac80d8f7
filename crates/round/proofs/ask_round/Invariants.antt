-- `round::ask_round` meets its contract. The loop's invariant: the pairs from here on give what the whole round gives.
use Rattle.falls.specs.Scene.{probe_of}
use Rattle.round.specs.Corners.{triangle_in}
use Rattle.round.proofs.Rounds.{Asking}
use Rattle.round.proofs.ask_round.Given as goal

abbrev pub invariant-loop-number : goal.invariant-loop-number
invariant-loop-number l = Asking (probe_of l.probe.scene l.probe.bytes.now) (triangle_in l.probe.scene.signs l.m) l.level l.looks l.number l.round
