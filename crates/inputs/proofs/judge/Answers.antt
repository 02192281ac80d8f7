-- `inputs::judge` meets its contract: by the three tests before the box. What they found makes the casts fit.
use mathlib.Core.Path.{sym, ◌∙◌}
use native.Mathlib.Omega.{arith}
use lib.Dec.{lit≤}
use Rattle.inputs.specs.Ranges.{range, range-fits}
use Rattle.inputs.specs.Facts.{judged-read}
use borrow.Author.Rules.{rules}
use Rattle.inputs.proofs.Judged.{judged-placed, inputs-judged}
use Rattle.inputs.proofs.judge.Goals as goal

pub overflow_cast-frame : goal.overflow_cast-frame
overflow_cast-frame c = range-fits (range _ _ _ (sym c.is_between-2.ensures ∙ c.in_ok-ensure-2.ensures)) (lit≤ tt)

pub overflow_cast-reach : goal.overflow_cast-reach
overflow_cast-reach c = range-fits (range _ _ _ (sym c.is_between.ensures ∙ c.in_ok-ensure.ensures)) (lit≤ tt)

pub judge_places-requires : goal.judge_places-requires
judge_places-requires c =
    let reach = range _ _ _ (sym c.is_between.ensures ∙ c.in_ok-ensure.ensures) in
    omega (arith, reach.at_most)

pub returns-in_err-ensure : goal.returns-in_err-ensure
returns-in_err-ensure c = judged-read c.ranges.frame c.ranges.reach (search (rules, inputs-judged))

pub returns-in_err-ensure-2 : goal.returns-in_err-ensure-2
returns-in_err-ensure-2 c = judged-read c.ranges.frame c.ranges.reach (search (rules, inputs-judged))

pub returns-in_err-ensure-3 : goal.returns-in_err-ensure-3
returns-in_err-ensure-3 c = judged-read c.ranges.frame c.ranges.reach (search (rules, inputs-judged))

pub returns : goal.returns
returns c =
    judged-read c.ranges.frame c.ranges.reach
    (judged-placed c.is_between.ensures c.in_ok-ensure.ensures c.is_between-2.ensures c.in_ok-ensure-2.ensures c.is_permitted.ensures c.in_ok-ensure-3.ensures c.body_of.ensures c.judge_places.ensures)
