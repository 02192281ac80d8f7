-- The sign of a bit.
use mathlib.Core.Path.{◌≡◌, refl}
use Prim.Native.Nat.{ℕ, zero, suc}
use lib.IntN.{pos, negsuc}
use Rattle.rules.specs.Walk.{sign}

pub sign_zero : {bit : ℕ} → bit ≡ 0 → pos 1 ≡ sign bit
unfolding sign
sign_zero e = rw e

pub sign-more : (bit : ℕ) → (bit ≡ 0 → ⊥) → negsuc 0 ≡ sign bit
unfolding sign
sign-more zero h = absurd (h refl)
sign-more (suc n) h = refl
