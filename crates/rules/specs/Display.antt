-- Document 01, "Display normal". These are definitions: nothing here is proved.
use Rattle.std.specs.Prelude.{◌≡◌, Bool, true, false, not, ◌&&◌, ℕ, zero, suc, ◌+◌, ◌*◌, ◌^◌, leb, eqb, ℤ, pos, negsuc, nat_abs, Float}
use Rattle.std.specs.Float.{binary32}
use Rattle.std.specs.Float.Ieee.{round}
use Rattle.rules.specs.declared.Light.{Light}
use Rattle.rules.specs.Answers.{Display, refused_input}
use Rattle.std.specs.Prelude.{Ok as Lit}
use Rattle.rules.specs.Solids.{between}

abbrev pub square : ℤ → ℕ
square n = nat_abs n * nat_abs n

abbrev pub squares : ℤ → ℤ → ℤ → ℕ
squares x y z = square x + square y + square z

-- the largest m up to a bound with m·m·S ≤ t
unfoldable pub largest : ℕ → ℕ → ℕ → ℕ
largest S t zero = 0
largest S t (suc m) = elim (leb (suc m * suc m * S) t) [ true ↦ suc m | false ↦ largest S t m ]

-- m, the largest whole number with m·m·S ≤ n·n·2^30. None is above 32768: theorem `size-largest`
unfoldable pub size_of : ℕ → ℤ → ℕ
size_of S n = largest S (square n * 2 ^ 30) 32768

abbrev pub is_negative : ℤ → Bool
is_negative (pos n) = false
is_negative (negsuc n) = true

-- the size is m/32768 and the sign is n's; zero gives +0
unfoldable pub component : ℕ → ℤ → Float
component S n = round binary32 (is_negative n) (size_of S n) 32768

-- refusal 30 if all are zero or one lies outside -1023 to 1023
unfoldable pub permitted_normal : ℤ → ℤ → ℤ → Bool
permitted_normal x y z =
    not (eqb (squares x y z) 0)
    && (between (negsuc 1022) x (pos 1023) && (between (negsuc 1022) y (pos 1023) && between (negsuc 1022) z (pos 1023)))

unfoldable pub light : ℤ → ℤ → ℤ → Light
light x y z =
    let S = squares x y z in
    record { x = component S x; y = component S y; z = component S z }

unfoldable pub display : ℤ → ℤ → ℤ → Display
display x y z = elim (permitted_normal x y z) [ true ↦ Lit (light x y z) | false ↦ refused_input 30 ]

pub record DisplayPromise (x y z : ℤ) (r : Display) : Type 0 where
  pub is : r ≡ display x y z
