-- A test of two parts: put together, and taken apart.
use Rattle.std.specs.Prelude.{◌≡◌, refl, Bool, true, false, ◌&&◌}
use Rattle.std.proofs.Common.{ap, ◌∙◌}

pub both : {a b : Bool} → a ≡ true → b ≡ true → (a && b) ≡ true
both {a} {b} p q = ap (λ (x : Bool). x && b) p ∙ q

pub not_first : {a : Bool} (b : Bool) → a ≡ false → (a && b) ≡ false
not_first b p = ap (λ (x : Bool). x && b) p

pub not-second : (a : Bool) {b : Bool} → b ≡ false → (a && b) ≡ false
not-second true q = q
not-second false q = refl

pub first_of : (a b : Bool) → (a && b) ≡ true → a ≡ true
first_of true b e = refl
first_of false b e = e

pub second-of : (a b : Bool) → (a && b) ≡ true → b ≡ true
second-of true b e = e
second-of false true e = refl
second-of false false e = e
