-- `within32` is what std's conversion gives.
use mathlib.Core.Path.{ap, ◌∙◌}
use mir.Facts.{to_z-of_z}
use Rattle.rules.specs.Session.{within32}
use Rattle.line.proofs.Numbers.{in_32}
use Rattle.line.proofs.within32.Goals as goal

pub returns : goal.returns
returns c = c.ok.ensures.value ∙ in_32 _ _ c.try_from.ensures ∙ ap within32 (to_z-of_z c.ranges.z)
