-- A flag as a number: at most 1, and what it adds to a list.
use Rattle.std.specs.Prelude.{◌≡◌, Bool, true, false, List, ◌+◌, ◌≤◌, length}
use Rattle.std.proofs.Common.{arith, lit≤}
use mir.Val.{bool_byte}
use Rattle.rules.specs.Walk.{keep}

pub at_most_one : (b : Bool) → bool_byte b ≤ 1
at_most_one true = lit≤ tt
at_most_one false = lit≤ tt

pub one_more : {A : Type 0} (b : Bool) (x : A) (xs : List A) → length (keep b x xs) ≡ bool_byte b + length xs
unfolding keep
one_more true x xs = omega arith
one_more false x xs = omega arith
