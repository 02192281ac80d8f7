-- Decimal digits as bytes. These are definitions: nothing here is proved.
use Rattle.std.specs.Prelude.{Bool, true, false, ◌&&◌, List, [], ◌∷◌, ◌++◌, ℕ, zero, suc, ◌+◌, ◌-◌, ◌*◌, ◌/◌, ◌%◌, leb, ltb, ℤ, pos, negsuc}

unfoldable pub is_digit : ℕ → Bool
is_digit b = leb 48 b && leb b 57

unfoldable pub are_digits : List ℕ → Bool
are_digits [] = true
are_digits (b ∷ more) = is_digit b && are_digits more

-- the number that digits say behind those that say v
unfoldable pub value : ℕ → List ℕ → ℕ
value v [] = v
value v (b ∷ more) = value (v * 10 + (b - 48)) more

-- the byte of the last digit of n
unfoldable pub figure : ℕ → ℕ
figure n = 48 + n % 10

-- a number without leading zeros; the first argument, which counts digits, is at least their number
unfoldable pub digits : ℕ → ℕ → List ℕ
digits zero n = figure n ∷ []
digits (suc more) n = elim (ltb n 10) [ true ↦ figure n ∷ [] | false ↦ digits more (n / 10) ++ (figure n ∷ []) ]

abbrev pub decimal : ℕ → List ℕ
decimal n = digits n n

-- with a minus where it is below zero
abbrev pub signed_decimal : ℤ → List ℕ
signed_decimal (pos n) = decimal n
signed_decimal (negsuc n) = 45 ∷ decimal (suc n)
