-- The loop's invariant is that of `falls::ask_falls`, for the point that is the apex with another part along the line's axis.
use Prim.Native.Nat.{◌-◌}
use Rattle.rules.specs.Solids.{look}
use Rattle.axis.specs.Axes.{with_part}
use Rattle.solid.specs.Grid.{ranks_of}
use Rattle.falls.specs.Falls.{Falling}
use Rattle.along.specs.Lines.{way_along}
use Rattle.along.proofs.ask_along.Given as goal

abbrev pub invariant-loop-n : goal.invariant-loop-n
invariant-loop-n l = let s = l.fn.probe.scene in
    Falling (look s.solid l.fn.probe.bytes.now) (ranks_of s.solid) s.apex (way_along l.fn.line) s.span l.fn.looks l.power l.n (with_part s.apex l.fn.line.axis l.at) l.rank

abbrev pub decreases-loop-n : goal.decreases-loop-n
decreases-loop-n l = 512 - l.power
