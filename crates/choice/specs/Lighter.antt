-- The weight of the best pair so far, and what is kept of one pair more. A triangle within 1023 has no weight of 10,000,000.
use Rattle.std.specs.Prelude.{◌≡◌, Option, None, Some, pos, ◌<ℤ◌}
use Rattle.std.proofs.Common.{arith}
use Rattle.integers.specs.Order.{parts}
use Rattle.integers.specs.Sizes.{sizes}
use Rattle.rules.specs.declared.Triangle.{Triangle}
use Rattle.rules.specs.declared.Pair.{Pair}
use Rattle.laws.specs.Sphere.{weight, weight-fits}
use Rattle.laws.specs.Choosing.{better}
use Rattle.choice.specs.declared.Best.{Best}
use Rattle.choice.specs.Best.{choice_of}
use Rattle.choice.specs.Sound.{Sound, all-bounded}

abbrev pub Weighs : Triangle → Option (Best Pair) → Type 0
Weighs m None = Unit {0}
Weighs m (Some b) = b.weight ≡ weight m b.pair

-- the best of the pair y more
pub record Preferred (m : Triangle) (sofar : Option (Best Pair)) (y : Pair) (r : Option (Best Pair)) : Type 0 where
  pub is : choice_of r ≡ better m (choice_of sofar) y
  pub weighs : Weighs m r

module _ {m : Triangle} (s : Sound m) where
  pub weight-below : (x : Pair) → weight m x <ℤ pos 10000000
  weight-below x = let h = weight-fits m (all-bounded s) x in omega (arith, parts, sizes)
