-- `p4_header::read_field` meets its contract: past the mix, by the digits, the white space behind them, and the value.
use Rattle.std.proofs.Common.{rules}
use Rattle.p4_header.proofs.Judgements.{field-none, field_loose, field-wrong, field-good}
use Rattle.p4_header.proofs.read_field.Goals as goal

pub returns-then-digits-first : goal.returns-then-digits-first
returns-then-digits-first c = search field-none

pub returns-in_err-next : goal.returns-in_err-next
returns-in_err-next c = search (rules, field_loose, c.in_err-next.ensures)

pub returns-then-value-lt1 : goal.returns-then-value-lt1
returns-then-value-lt1 c = search (field-wrong, c.in_ok-next.ensures)

pub returns : goal.returns
returns c = search (field-good, c.in_ok-next.ensures)
