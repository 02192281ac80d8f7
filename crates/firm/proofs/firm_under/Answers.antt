-- `firm::firm_under` meets its contract: by whether the answer can be measured.
use mathlib.Core.Path.{sym, ◌∙◌}
use Rattle.firm.proofs.Standing.{signs-small, under}
use Rattle.firm.proofs.firm_under.Goals as goal

pub returns-then-not-is_measurable : goal.returns-then-not-is_measurable
returns-then-not-is_measurable c = search under

pub firm_from-requires : goal.firm_from-requires
firm_from-requires c = let e = sym c.is_measurable.ensures ∙ c.if-not-is_measurable.false in search signs-small

pub returns : goal.returns
returns c = search under
