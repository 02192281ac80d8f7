-- `lean::spread_of` meets its contract: a side that takes no part counts 0. Three sides of at most 3·4092² and three axes fit.
use Rattle.lean.proofs.Spreading.{sum_low, sum_is}
use Rattle.lean.proofs.spread_of.Goals as goal

pub overflow_add-result : goal.overflow_add-result
overflow_add-result c = search sum_low

pub returns : goal.returns
returns c = search sum_is
