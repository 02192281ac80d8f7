-- `ready::count_powers` meets its contract: the exponent of the last power counts them.
use native.Mathlib.Omega.{arith}
use Rattle.laws.specs.Powers.{powers-counted}
use Rattle.ready.proofs.count_powers.Goals as goal

pub returns : goal.returns
returns c =
    let p = c.next_power_of_two.ensures in
    omega (arith, powers-counted p.power p.lower_bound p.upper_bound c.ilog2.ensures.power_le c.ilog2.ensures.next_power_gt)
