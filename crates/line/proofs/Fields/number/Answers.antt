-- Each way out of `number`: no field is left, or the first of them is read.
use mathlib.Core.Path.{refl}
use Rattle.line.proofs.Steps.{over, first_number}
use Rattle.line.proofs.Fields.number.Goals as goal

pub returns-in_err-rest : goal.returns-in_err-rest
returns-in_err-rest c = over c.in_err-rest.was c.from_residual.ensures

pub returns : goal.returns
returns c = first_number c.find-end.ensures c.in_ok-rest.was refl c.get-self.ensures.lookup c.read_number.ensures
