-- The best falling pair so far, with its weight.
use Rattle.std.specs.Prelude.{true, false, ℤ, Option, None, Some}
use Rattle.std.specs.Int.Signed.{lt_z}
use Rattle.rules.specs.declared.Pair.{Pair}
use Rattle.rules.specs.Answers.{Choice}
use Rattle.choice.specs.declared.Best.{Best}

abbrev pub best_of : {P : Type 0} → P → ℤ → Best P
best_of x w = record { pair = x; weight = w }

-- the pair of the best so far
abbrev pub choice_of : Option (Best Pair) → Choice
choice_of None = None
choice_of (Some b) = Some b.pair

-- the best so far and a pair more: whichever weighs less, of equals the first
unfoldable pub lighter : {P : Type 0} → Option (Best P) → Best P → Option (Best P)
lighter None next = Some next
lighter (Some sofar) next = elim (lt_z next.weight sofar.weight) [ true ↦ Some next | false ↦ Some sofar ]
