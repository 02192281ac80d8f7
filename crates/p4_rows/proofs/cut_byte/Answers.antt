-- `p4_rows::cut_byte` meets its contract: a shift down and up again loses no higher bit.
use native.Mathlib.Omega.{arith}
use Rattle.p4_rows.proofs.Clearing.{shifts}
use Rattle.p4_rows.proofs.cut_byte.Goals as goal

pub returns : goal.returns
returns c = search (shifts, arith)
