-- `ready::is_ready` meets its contract: nine powers at most, so 2 + 6K fits.
use native.Mathlib.Omega.{arith}
use Rattle.rules.specs.Walk.{all_level}
use Rattle.rules.specs.TwoCalls.{is_ready}
use Rattle.laws.specs.Powers.{few-powers}
use Rattle.ready.proofs.is_ready.Goals as goal

pub overflow_mul-most : goal.overflow_mul-most
overflow_mul-most c = omega (arith, few-powers c.args.reach c.requires, c.count_powers.ensures)

pub overflow_add-most : goal.overflow_add-most
overflow_add-most c = omega (arith, few-powers c.args.reach c.requires, c.count_powers.ensures)

pub returns : goal.returns
unfolding is_ready all_level
returns c = rw c.count_powers.ensures
