-- `firm::firm_on` meets its contract: by the three tests before the answer.
use Rattle.firm.proofs.Answers.{on, reach-low}
use Rattle.firm.proofs.firm_on.Goals as goal

pub returns-then-not-is_between : goal.returns-then-not-is_between
returns-then-not-is_between c = search on

pub returns-then-not-is_between-2 : goal.returns-then-not-is_between-2
returns-then-not-is_between-2 c = search on

pub returns-then-not-is_permitted : goal.returns-then-not-is_permitted
returns-then-not-is_permitted c = search on

pub firm_of-requires : goal.firm_of-requires
firm_of-requires c = search reach-low

pub returns : goal.returns
returns c = search on
