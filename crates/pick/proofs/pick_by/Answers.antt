-- `pick::pick_by` meets its contract: what the call comes to, as an answer.
use mathlib.Core.Path.{◌∙◌}
use Rattle.pick.proofs.Answers.{made-read, ends-in, ends-pick, as-picked}
use Rattle.pick.proofs.pick_by.Goals as goal

pub as_pick-requires : goal.as_pick-requires
as_pick-requires c =
    ends-pick _ (made-read c.ranges.frame c.ranges.reach c.make_call.ensures ∙ as-picked c.args.call _ _ _ _ c.requires)

pub returns : goal.returns
returns c =
    ends-in _ _ (made-read c.ranges.frame c.ranges.reach c.make_call.ensures ∙ as-picked c.args.call _ _ _ _ c.requires) c.as_pick.ensures
