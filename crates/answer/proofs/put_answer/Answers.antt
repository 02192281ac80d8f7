-- `answer::put_answer` meets its contract: by the case of the answer, accepted or refused.
use Rattle.answer.proofs.Words.{told-accepted, told-refused}
use Rattle.answer.proofs.put_answer.Goals as goal

pub returns-in-Ok : goal.returns-in-Ok
returns-in-Ok c = search told-accepted

pub returns-in-Err : goal.returns-in-Err
returns-in-Err c = search told-refused
