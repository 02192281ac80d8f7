-- The start under the apex: a number is held to 32 bits by two tests, as std's difference is.
use mathlib.Core.Path.{◌≡◌, refl, ap, ◌∙◌}
use mathlib.Core.Bool.{Bool, true, false}
use native.Mathlib.Omega.{arith}
use lib.IntN.{ℤ, pos, negsuc, ◌-ℤ◌}
use lib.Signed.{lt_z}
use mir.Syntax.{w32}
use mir.Val.{SFits, to_z, of_z}
use mir.Facts.{to_z-of_z}
use Rattle.std.specs.Int.{saturate_signed}
use Rattle.integers.specs.Order.{parts}
use Rattle.integers.specs.Machine.{tests}
use Rattle.rules.specs.Firm.{held}

held_low : (z : ℤ) → lt_z z (negsuc 2147483647) ≡ true → negsuc 2147483647 ≡ held z
unfolding held
held_low z e = rw (e, held) refl

module _ (z : ℤ) (e : lt_z z (negsuc 2147483647) ≡ false) where
  held_high : lt_z (pos 2147483647) z ≡ true → pos 2147483647 ≡ held z
  unfolding held
  held_high f = rw (e, f, held) refl

  held_kept : lt_z (pos 2147483647) z ≡ false → z ≡ held z
  unfolding held
  held_kept f = rw (e, f, held) refl

pub saturated : (z : ℤ) → saturate_signed w32 z ≡ held z
saturated (pos n) = go (lt_z (pos 2147483647) (pos n)) refl
  where
    go : (b : Bool) → lt_z (pos 2147483647) (pos n) ≡ b → saturate_signed w32 (pos n) ≡ held (pos n)
    go true e = ap pos (omega (arith, parts, tests)) ∙ held_high (pos n) refl e
    go false e = ap pos (omega (arith, parts, tests)) ∙ held_kept (pos n) refl e
saturated (negsuc n) = go (lt_z (negsuc n) (negsuc 2147483647)) refl
  where
    go : (b : Bool) → lt_z (negsuc n) (negsuc 2147483647) ≡ b → saturate_signed w32 (negsuc n) ≡ held (negsuc n)
    go true e = ap negsuc (omega (arith, parts, tests)) ∙ held_low (negsuc n) e
    go false e = ap negsuc (omega (arith, parts, tests)) ∙ held_kept (negsuc n) e refl

pub difference-held : {x y r : ℤ} → SFits w32 x → SFits w32 y → SFits w32 r → r ≡ saturate_signed w32 (to_z w32 (of_z w32 x) -ℤ to_z w32 (of_z w32 y)) → to_z w32 (of_z w32 r) ≡ held (x -ℤ y)
difference-held f g h e = to_z-of_z h ∙ e ∙ saturated _ ∙ rw (to_z-of_z f, to_z-of_z g) refl

-- the last two are for an edit: where it sets the greatest start apart, it is to be refused for the start alone
pub ruleset holding = (difference-held, saturated, to_z-of_z)
