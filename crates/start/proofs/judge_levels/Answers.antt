-- `start::judge_levels` meets its contract: by whether all three are level.
use Rattle.start.proofs.Axes.{judged-level, judged-begun}
use Rattle.start.proofs.judge_levels.Goals as goal

pub returns-then-level : goal.returns-then-level
returns-then-level c = search judged-level

pub returns-else-level : goal.returns-else-level
returns-else-level c = search judged-begun
