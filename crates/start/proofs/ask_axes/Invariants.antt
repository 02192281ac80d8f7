-- `start::ask_axes` meets its contract. The loop's invariant: the axes from here on give what all axes give.
use Rattle.falls.specs.Scene.{probe_of}
use Rattle.start.proofs.Turns.{Asking}
use Rattle.start.proofs.ask_axes.Given as goal

abbrev pub invariant-loop-axis : goal.invariant-loop-axis
invariant-loop-axis l = Asking (probe_of l.probe.scene l.probe.bytes.now) l.looks l.axis-index l.begun.level l.begun.looks
