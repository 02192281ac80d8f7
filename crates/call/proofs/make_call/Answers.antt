-- `call::make_call` meets its contract: the solid that is made of a solid's numbers is that solid.
use Rattle.call.proofs.Answers.{made_again}
use Rattle.call.proofs.make_call.Goals as goal

pub returns : goal.returns
returns c =
    made_again c.ranges.frame c.ranges.reach (record { sfits = c.height_of-h.type_inv }) c.is_stack-stack.ensures c.numbers_of-n.ensures c.height_of-h.ensures c.solid_of.ensures c.answer.ensures
