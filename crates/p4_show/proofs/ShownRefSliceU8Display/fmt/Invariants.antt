-- The bytes shown: the loop keeps that those before its own are written.
use Rattle.std.proofs.Common.{take}
use Rattle.std.specs.Fmt.{HasWritten, IsPlainFormatter}
use Rattle.p4_show.specs.Texts.{bytes}
use Rattle.p4_show.proofs.ShownRefSliceU8Display.fmt.Given as goal

abbrev pub invariant-loop-b : goal.invariant-loop-b
invariant-loop-b g l =
    IsPlainFormatter l.initial.f → HasWritten g.W.Write.write_str_gives l.initial.f (bytes (take l.b-index l.b-items)) l.f
