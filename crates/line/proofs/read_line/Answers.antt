-- Each way out of `read_line`: what is read first that is none, a field behind the ninth, or the question.
use mathlib.Core.Path.{sym, ◌∙◌}
use Rattle.std.proofs.Common.{rules}
use Rattle.line.specs.Reading.{next_question}
use Rattle.line.proofs.Steps.{stops, goes_on, goes_on_number, ends}
use Rattle.line.proofs.Whole.{no_question, more_behind, asks}
use Rattle.line.proofs.read_line.Goals as goal

pub returns-in_err-wedge : goal.returns-in_err-wedge
unfolding next_question
returns-in_err-wedge c = no_question (stops _ c.in_err-wedge.ensures) c.from_residual.ensures

pub returns-in_err-place : goal.returns-in_err-place
unfolding next_question
returns-in_err-place c = no_question (goes_on _ c.in_ok-wedge.ensures (stops _ c.in_err-place.ensures)) c.from_residual-in_err-place.ensures

pub returns-in_err-number : goal.returns-in_err-number
unfolding next_question
returns-in_err-number c = no_question (goes_on _ c.in_ok-wedge.ensures (goes_on _ c.in_ok-place.ensures (stops _ c.in_err-number.ensures))) c.from_residual-in_err-number.ensures

pub returns-in_err-number-2 : goal.returns-in_err-number-2
unfolding next_question
returns-in_err-number-2 c = no_question (goes_on _ c.in_ok-wedge.ensures (goes_on _ c.in_ok-place.ensures (goes_on _ c.in_ok-number.ensures (stops _ c.in_err-number-2.ensures)))) c.from_residual-in_err-number-2.ensures

pub returns-then-is_some : goal.returns-then-is_some
unfolding next_question
returns-then-is_some c =
    more_behind
    (goes_on _ c.in_ok-wedge.ensures (goes_on _ c.in_ok-place.ensures (goes_on _ c.in_ok-number.ensures (goes_on _ c.in_ok-number-2.ensures ends))))
    (sym c.is_some.ensures ∙ c.if-is_some.true)

pub returns : goal.returns
unfolding next_question
returns c =
    asks {line = c.args.line} {t = c.number-2.new.self}
    (goes_on _ c.in_ok-wedge.ensures (goes_on _ c.in_ok-place.ensures (goes_on_number _ c.in_ok-number.ensures (search rules) (goes_on_number _ c.in_ok-number-2.ensures (search rules) ends))))
    (sym c.is_some.ensures ∙ c.if-is_some.false)
