-- `start::start_at` meets its contract: by p and q, then by the axes or the corners.
use borrow.Author.Rules.{rules}
use Rattle.start.proofs.Starts.{starting}
use Rattle.start.proofs.start_at.Goals as goal

pub returns-in_err-looks : goal.returns-in_err-looks
returns-in_err-looks c = search (rules, starting)

pub returns-then-quick : goal.returns-then-quick
returns-then-quick c = search (starting, c.in_ok-looks.ensures)

pub returns-else-quick : goal.returns-else-quick
returns-else-quick c = search (starting, c.in_ok-looks.ensures)
