-- Each way out of `display_normal` is the definition's answer: all zero, one out of range, or shown.
use Rattle.display.proofs.Answers.{promise-back, dark-zero, dark-outside, lit-asks, shows}
use Rattle.display.proofs.display_normal.Goals as goal

ruleset all-zero = (promise-back, dark-zero)

ruleset out_of_range = (promise-back, dark-outside)

ruleset shown = (promise-back, shows)

pub returns-then-s-eq0 : goal.returns-then-s-eq0
returns-then-s-eq0 c = search all-zero

pub lit-requires : goal.lit-requires
lit-requires c = search lit-asks

pub returns-then-all_in_range : goal.returns-then-all_in_range
returns-then-all_in_range c = search shown

pub returns : goal.returns
returns c = search out_of_range
