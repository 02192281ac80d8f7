-- The choice of one round, pair by pair as code makes it; what holds of each falling pair holds of the chosen one.
use Rattle.std.specs.Prelude.{Bool}
use Rattle.std.proofs.Math.Bool.{true, false}
use mathlib.Core.List.{List, [], ◌∷◌}
use Rattle.rules.specs.declared.Triangle.{Triangle}
use Rattle.rules.specs.declared.Pair.{Pair}
use Rattle.rules.specs.Answers.{Choice}
use Rattle.std.specs.Prelude.{None as Nothing, Some as Chosen}
use Rattle.rules.specs.Walk.{inside, any_inside, first_free, choice}
use Rattle.laws.specs.Tests.{Each}

-- ---- the choice of one round, pair by pair, as code makes it
-- the best so far, and a pair that falls too
unfoldable pub better : Triangle → Choice → Pair → Choice
better m Nothing y = Chosen y
better m (Chosen x) y = elim (inside m x y) [ true ↦ Chosen y | false ↦ Chosen x ]

unfoldable pub best : Triangle → Choice → List Pair → Choice
best m c [] = c
best m c (y ∷ ys) = best m (better m c y) ys

-- ---- what holds of each falling pair holds of the chosen one
abbrev pub Chose : (Pair → Type 0) → Type 0 → Choice → Type 0
Chose P Z Nothing = Z
Chose P Z (Chosen x) = P x

first-free-is : (P : Pair → Type 0) (m : Triangle) (fs xs : List Pair) → Each P xs → Chose P (Unit {0}) (first_free m fs xs)
unfolding first_free
first-free-is P m fs [] h = tt
first-free-is P m fs (x ∷ xs) h = go (any_inside m x fs) (first-free-is P m fs xs h.1)
  where
    go : (b : Bool) → Chose P (Unit {0}) (first_free m fs xs) → Chose P (Unit {0}) (elim b [ false ↦ Chosen x | true ↦ first_free m fs xs ])
    go false r = h.0
    go true r = r

pub choice-is : (P : Pair → Type 0) (m : Triangle) (fs : List Pair) → Each P fs → Chose P (Unit {0}) (choice m fs)
unfolding choice
choice-is P m fs h = first-free-is P m fs fs h
