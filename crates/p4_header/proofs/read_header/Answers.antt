-- `p4_header::read_header` meets its contract: by the magic, the white space behind it, and the two fields.
use Rattle.std.proofs.Common.{rules}
use Rattle.p4_header.proofs.Judgements.{header-not, header-gap, header-width, header-height, header-sizes}
use Rattle.p4_header.proofs.read_header.Goals as goal

pub returns-then-not-starts_with : goal.returns-then-not-starts_with
returns-then-not-starts_with c = search header-not

pub returns-in_err-gap : goal.returns-in_err-gap
returns-in_err-gap c = search (rules, header-gap, c.in_err-gap.ensures)

pub returns-in_err-width : goal.returns-in_err-width
returns-in_err-width c = search (rules, header-width, c.in_ok-gap.ensures, c.in_err-width.ensures)

pub returns-in_err-height : goal.returns-in_err-height
returns-in_err-height c = search (rules, header-height, c.in_ok-gap.ensures, c.in_ok-width.ensures, c.in_err-height.ensures)

pub returns : goal.returns
returns c = search (header-sizes, c.in_ok-gap.ensures, c.in_ok-width.ensures, c.in_ok-height.ensures)
