-- `firm::clear` meets its contract: by whether the start and then the apex are in the box, and by what they were found to be.
use Rattle.firm.proofs.Clearing.{clearing}
use Rattle.firm.proofs.clear.Goals as goal

pub returns-then-not-is_inside : goal.returns-then-not-is_inside
returns-then-not-is_inside c = search clearing

pub returns-then-not-is_inside-2 : goal.returns-then-not-is_inside-2
returns-then-not-is_inside-2 c = search clearing

pub returns : goal.returns
returns c = search clearing
