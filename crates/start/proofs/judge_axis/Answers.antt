-- `start::judge_axis` meets its contract: by what the question of minus the unit vector gave, and what `ask_opposite` promises.
use Rattle.start.proofs.Axes.{judging-axis}
use Rattle.start.proofs.judge_axis.Goals as goal

pub returns-in-Fell : goal.returns-in-Fell
returns-in-Fell c = search judging-axis

pub returns-in-Kept : goal.returns-in-Kept
returns-in-Kept c = search judging-axis

pub returns-in-Stopped : goal.returns-in-Stopped
returns-in-Stopped c = search judging-axis
