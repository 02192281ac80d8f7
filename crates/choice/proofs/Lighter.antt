-- Keeping the lighter pair is document 01's choice: strictly inside is a smaller weight, since the triangle's determinant is 1.
use Rattle.std.specs.Prelude.{◌≡◌, refl, Bool, ℤ, Option, None, Some}
use Rattle.std.proofs.Math.Bool.{true, false}
use Rattle.std.specs.Int.Signed.{lt_z}
use Rattle.rules.specs.declared.Triangle.{Triangle}
use Rattle.rules.specs.declared.Pair.{Pair}
use Rattle.laws.specs.Sphere.{weight, inside-by-weight}
use Rattle.rules.specs.Walk.{inside}
use Rattle.laws.specs.Choosing.{better}
use Rattle.choice.specs.declared.Best.{Best}
use Rattle.choice.specs.Best.{best_of, lighter}
use Rattle.choice.specs.Sound.{Sound}
use Rattle.choice.specs.Lighter.{Weighs, Preferred}

module _ {m : Triangle} (s : Sound m) (y : Pair) where
  lighter-preferred : (sofar : Option (Best Pair)) → Weighs m sofar → Preferred m sofar y (lighter sofar (best_of y (weight m y)))
  unfolding lighter better
  lighter-preferred None h = record { is = refl; weighs = refl }
  lighter-preferred (Some b) h = go (lt_z (weight m y) b.weight) (rw h (inside-by-weight m s.unimodular b.pair y))
    where
      go : (t : Bool) → inside m b.pair y ≡ t → Preferred m (Some b) y (elim t [ true ↦ Some (best_of y (weight m y)) | false ↦ Some b ])
      go true i = record { is = rw (better, i); weighs = refl }
      go false i = record { is = rw (better, i); weighs = h }

  -- as the code comes to it
  pub prefers : {sofar : Option (Best Pair)} {next : Best Pair} {r : Option (Best Pair)} {w : ℤ} → Weighs m sofar → w ≡ weight m y → next ≡ best_of y w → r ≡ lighter sofar next → Preferred m sofar y r
  prefers {sofar} h e p q = rw (q, p, e) (lighter-preferred sofar h)
