-- `walk::count_remaining` meets its contract: an axis that is not level is one more of the list.
use mathlib.Core.Path.{◌≡◌}
use mathlib.Core.Bool.{not}
use mathlib.Core.List.{[]}
use Prim.Native.Nat.{◌+◌, ◌≤◌}
use native.Mathlib.Omega.{arith}
use lib.ListN.{length}
use mir.Val.{bool_byte}
use Rattle.rules.specs.declared.Levels.{Levels}
use Rattle.rules.specs.declared.Axis.TheVariants.{Axis0 as axis0, Axis1 as axis1, Axis2 as axis2}
use Rattle.rules.specs.Walk.{keep, only, remaining}
use Rattle.laws.specs.Flags.{at_most_one, one_more}
use Rattle.walk.proofs.count_remaining.Goals as goal

counted : (v : Levels) → bool_byte (not v.x) + bool_byte (not v.y) + bool_byte (not v.z) ≡ length (remaining v)
unfolding remaining only
counted v = let z = keep (not v.z) axis2 [] in omega (arith, one_more (not v.x) axis0 (keep (not v.y) axis1 z), one_more (not v.y) axis1 z, one_more (not v.z) axis2 [])

-- so the sum is at most 3
module _ (v : Levels) where
  x-and-y : bool_byte (not v.x) + bool_byte (not v.y) ≤ 2
  x-and-y = omega (arith, at_most_one (not v.x), at_most_one (not v.y))

  all_three : bool_byte (not v.x) + bool_byte (not v.y) + bool_byte (not v.z) ≤ 3
  all_three = omega (arith, x-and-y, at_most_one (not v.z))

pub overflow_add-result : goal.overflow_add-result
overflow_add-result c = omega (arith, x-and-y c.args.level)

pub overflow_add-result-2 : goal.overflow_add-result-2
overflow_add-result-2 c = omega (arith, all_three c.args.level)

pub returns : goal.returns
returns c = search counted
