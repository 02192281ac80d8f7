-- `firm::firm_of` meets its contract: a refused pick has no footing.
use Rattle.firm.proofs.Answers.{of-refused}
use Rattle.firm.proofs.firm_of.Goals as goal

pub returns-in-Err : goal.returns-in-Err
returns-in-Err c = search of-refused
