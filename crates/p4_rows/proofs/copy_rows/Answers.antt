-- `p4_rows::copy_rows` meets its contract: a plain copy whose padding is cleared is the rows, whole bytes have none.
use Rattle.p4_rows.proofs.Clearing.{rows_whole, rows-cleared, clear_room}
use Rattle.p4_rows.proofs.copy_rows.Goals as goal

pub returns-then-size-eq0 : goal.returns-then-size-eq0
returns-then-size-eq0 c = search rows_whole

pub clear_padding-requires : goal.clear_padding-requires
clear_padding-requires c = search clear_room

pub returns : goal.returns
returns c = search rows-cleared
