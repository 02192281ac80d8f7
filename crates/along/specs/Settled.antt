-- What `line_of` ensures settles its answer; that of `ask_along` is settled as every falls question's is (`fallen-settled`).
use Rattle.std.specs.Prelude.{◌≡◌}
use Rattle.std.proofs.Common.{sym, ◌∙◌}
use Rattle.rules.specs.declared.Axis.{Axis}
use Rattle.falls.specs.declared.Scene.{Scene}
use Rattle.along.specs.declared.Line.{Line}
use Rattle.along.specs.Lines.{LineOf}

pub line-settled : {v : Scene} {k : Axis} {l m : Line} → LineOf v k l → LineOf v k m → l ≡ m
line-settled h g = h.is ∙ sym g.is
