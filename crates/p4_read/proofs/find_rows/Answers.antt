-- `p4_read::find_rows` meets its contract: by the header, its sizes beside those asked for, and the input's length.
use Rattle.std.proofs.Common.{arith, rules}
use Rattle.p4_read.proofs.Finding.{rows_none, rows_inside, rows-other, rows_short, rows-there}
use Rattle.p4_read.proofs.find_rows.Goals as goal

pub returns-in_err-header : goal.returns-in_err-header
returns-in_err-header c = search (rules, rows_none, c.in_err-header.ensures)

pub returns-then-header-size : goal.returns-then-header-size
returns-then-header-size c = search (rows-other, c.in_ok-header.ensures)

-- the place behind the rows is a number, as the rows begin inside the input
pub overflow_add-header : goal.overflow_add-header
overflow_add-header c = omega (arith, rows_inside c.in_ok-header.ensures, c.bytes.ensures.small)

pub returns-then-src-header : goal.returns-then-src-header
returns-then-src-header c = search (rows_short, c.in_ok-header.ensures)

pub returns : goal.returns
returns c = search (rows-there, c.in_ok-header.ensures)
