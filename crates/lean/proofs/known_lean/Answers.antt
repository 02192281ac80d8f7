-- `lean::known_lean` meets its contract: by the tests of the reach and of the answer. What they found makes the powers fit.
use mathlib.Core.Path.{sym, ◌∙◌}
use Rattle.lean.proofs.Knowing.{reach-low, power-low}
use Rattle.lean.proofs.known_lean.Goals as goal

pub last_power-requires : goal.last_power-requires
last_power-requires c = search reach-low

pub bound_at-requires : goal.bound_at-requires
bound_at-requires c = (sym c.is_measurable.ensures ∙ c.if-is_measurable.true, search power-low)
