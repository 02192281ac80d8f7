-- `firm::face` meets its contract: by the looks at the start and then at the apex, which lie in the box.
use Rattle.firm.proofs.Clearing.{facing-start}
use Rattle.firm.proofs.face.Goals as goal

pub returns-then-not-is_filled : goal.returns-then-not-is_filled
returns-then-not-is_filled c = search facing-start

pub returns-then-is_filled : goal.returns-then-is_filled
returns-then-is_filled c = search facing-start

pub returns : goal.returns
returns c = search facing-start
