-- Each way out of `place`: the first of three numbers that is none, or all three.
use Rattle.line.specs.Reading.{next_three}
use Rattle.line.proofs.Steps.{nothing, stops, goes_on, goes_on_number, ends}
use Rattle.line.proofs.Fields.place.Goals as goal

pub returns-in_err-number : goal.returns-in_err-number
unfolding next_three
returns-in_err-number c = nothing (stops _ c.in_err-number.ensures) c.from_residual.ensures

pub returns-in_err-number-2 : goal.returns-in_err-number-2
unfolding next_three
returns-in_err-number-2 c = nothing (goes_on _ c.in_ok-number.ensures (stops _ c.in_err-number-2.ensures)) c.from_residual-in_err-number-2.ensures

pub returns-in_err-number-3 : goal.returns-in_err-number-3
unfolding next_three
returns-in_err-number-3 c = nothing (goes_on _ c.in_ok-number.ensures (goes_on _ c.in_ok-number-2.ensures (stops _ c.in_err-number-3.ensures))) c.from_residual-in_err-number-3.ensures

pub returns : goal.returns
unfolding next_three
returns c = search (goes_on_number, ends, c.in_ok-number.ensures, c.in_ok-number-2.ensures, c.in_ok-number-3.ensures)
