-- `facing::ask_corners` meets its contract. The loop's invariant: the corners from here on give what all give.
use Rattle.falls.specs.Scene.{probe_of}
use Rattle.facing.proofs.Corners.{Asking}
use Rattle.facing.proofs.ask_corners.Given as goal

abbrev pub invariant-loop-axis : goal.invariant-loop-axis
invariant-loop-axis l = Asking (probe_of l.probe.scene l.probe.bytes.now) l.looks l.axis-index l.n
