-- `shown` divides by 32768 or by its opposite, which gives the sign.
use Rattle.display.proofs.Components.{shown-below, shown-from-zero}
use Rattle.display.proofs.Scale.shown.Goals as goal

pub returns-then-n-lt0 : goal.returns-then-n-lt0
returns-then-n-lt0 c = search shown-below

pub returns-else-n-lt0 : goal.returns-else-n-lt0
returns-else-n-lt0 c = search shown-from-zero
