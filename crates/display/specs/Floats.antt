-- A whole number up to 32768, divided by 32768 as a float, is that fraction exactly, with the divisor's sign.
use Rattle.std.specs.Prelude.{◌≡◌, refl, Bool, true, false, ℕ, ◌*◌, ◌^◌, ◌≤◌, T, pos, Float}
use Rattle.std.proofs.Common.{sym, ap, subst, ◌∙◌, le_refl, lt_of_le_of_lt, mul_assoc, mul_comm, mul-pos, mul-le-mul, lit<}
use Rattle.std.specs.Float.{nan, inf, fin, binary32}
use Rattle.std.specs.Float.Ieee.{round, div, unlike, up, down}
use Rattle.std.specs.Float.Ieee.Exact.{HasValue, round_exact}
use Rattle.std.specs.Float.Ieee.Fits.{down_pos}
use Rattle.std.specs.Float.Ieee.Scale.{round_same}

-- the fraction is held exactly
pub exact : (sign : Bool) (m : ℕ) → m ≤ 32768 → HasValue (round binary32 sign m 32768) sign m 32768
exact sign m h =
    round_exact binary32 sign m 32768 m 134 (lit< tt) (lt_of_le_of_lt h (lit< tt))
    (lt_of_le_of_lt (mul-le-mul h (le_refl (2 ^ 134))) (lit< tt))
    (sym (mul_assoc m (2 ^ 134) 32768))

from_false : (s : Bool) → unlike false s ≡ s
from_false true = refl
from_false false = refl

-- and division gives it
pub divided : (sign : Bool) (x : Float) (m : ℕ) → HasValue x false m 1 → div binary32 x (fin sign 1 (pos 15)) ≡ round binary32 sign m 32768
unfolding div
divided sign nan m h = absurd h
divided sign (inf s) m h = absurd h
divided sign (fin true k e) m h = absurd (subst T h.0 tt)
divided sign (fin false k e) m h =
    ap (λ (s : Bool). round binary32 s (k * up e * 1) (32768 * down e)) (from_false sign)
    ∙ round_same binary32 sign (k * up e * 1) (32768 * down e) m 32768 (mul-pos (lit< tt) (down_pos e)) (lit< tt)
    (ap (λ (z : ℕ). z * 32768) h.1 ∙ mul_assoc m (down e) 32768 ∙ ap (λ (z : ℕ). m * z) (mul_comm (down e) 32768))
