-- Pairs by their numbers: which bits skip them. All is seen case by case, of three flags and six pairs.
use Rattle.std.specs.Prelude.{◌≡◌, refl, Bool, true, false, ◌||◌, ◌+◌, ◌*◌}
use mir.Val.{bool_byte}
use Rattle.rules.specs.declared.Levels.{Levels}
use Rattle.rules.specs.declared.Pair.{Pair}
use Rattle.rules.specs.declared.Pair.TheVariants.{P01, P02, P10, P12, P20, P21}
use Rattle.rules.specs.Walk.{levels, takes_part}
use Rattle.round.specs.Round.{number_of, asks_bit, Skips}

by_pair : (P : Pair → Type 0) → P P01 → P P02 → P P10 → P P12 → P P20 → P P21 → (x : Pair) → P x
by_pair P a b c d e f P01 = a
by_pair P a b c d e f P02 = b
by_pair P a b c d e f P10 = c
by_pair P a b c d e f P12 = d
by_pair P a b c d e f P20 = e
by_pair P a b c d e f P21 = f

abbrev SkipsAt : Bool → Bool → Bool → Pair → Type 0
SkipsAt x y z n = asks_bit (5 * bool_byte (x || y) + 18 * bool_byte (x || z) + 40 * bool_byte (y || z)) (number_of n) ≡ takes_part (levels x y z) n

skips-levels : (x y z : Bool) (n : Pair) → SkipsAt x y z n
unfolding takes_part
skips-levels false false false = by_pair (SkipsAt false false false) refl refl refl refl refl refl
skips-levels false false true = by_pair (SkipsAt false false true) refl refl refl refl refl refl
skips-levels false true false = by_pair (SkipsAt false true false) refl refl refl refl refl refl
skips-levels false true true = by_pair (SkipsAt false true true) refl refl refl refl refl refl
skips-levels true false false = by_pair (SkipsAt true false false) refl refl refl refl refl refl
skips-levels true false true = by_pair (SkipsAt true false true) refl refl refl refl refl refl
skips-levels true true false = by_pair (SkipsAt true true false) refl refl refl refl refl refl
skips-levels true true true = by_pair (SkipsAt true true true) refl refl refl refl refl refl

pub skips : (v : Levels) → Skips v (5 * bool_byte (v.x || v.y) + 18 * bool_byte (v.x || v.z) + 40 * bool_byte (v.y || v.z))
skips v = record { bits = skips-levels v.x v.y v.z }
