-- Sizes of integers: `Within B z` says |z| ≤ B.
--     omega (arith, parts, sizes)                              reads `Within B x` among the hypotheses, and proves it of a variable x
--     goal (search (within-linear, linear)) (omega arith)      proves it of a sum or a difference
-- Of any term whose atoms are bounded, `search` finds a bound by itself: `within` of Machine.
use Rattle.std.specs.Prelude.{◌≡◌, refl, ℕ, zero, suc, ◌+◌, ◌-◌, ◌*◌, ◌≤◌, ℤ, pos, negsuc, neg_ℤ, ◌+ℤ◌, ◌*ℤ◌, nat_abs, ◌≤ℤ◌}
use Rattle.std.proofs.Common.{sym, subst, arith}
use Rattle.std.proofs.Math.Nat as NatL
use Rattle.std.specs.Int.Signed.{pos-nat_abs, yes_non_neg}
use Rattle.integers.specs.Order.{above, below, Difference, Linear, sum_is, opposite-is}

-- a record, so that B and z can be inferred
pub record Within (B : ℕ) (z : ℤ) : Type 0 where
  pub size : nat_abs z ≤ B

-- ---- a size and the order
pub within-parts : {B : ℕ} {x : ℤ} → Within B x → above x + below x ≤ B
within-parts {x = pos n} h = omega arith
within-parts {x = negsuc n} h = omega arith

pub parts_within : {B : ℕ} {x : ℤ} → (above x - below x) + (below x - above x) ≤ B → Within B x
parts_within {x = pos n} h = record { size = omega arith }
parts_within {x = negsuc n} h = record { size = omega arith }

pub ruleset sizes = (within-parts, parts_within)

abbrev pub within-linear : {B : ℕ} {x : ℤ} → Difference x → Linear (Within B x)
within-linear {B} a = record {
  OnNaturals = (a.plus - a.minus) + (a.minus - a.plus) ≤ B;
  tell = λ h. omega (arith, sizes);
  ask = λ h. omega (arith, sizes);
}

pub natural : {x : ℤ} → pos 0 ≤ℤ x → pos (nat_abs x) ≡ x
natural {x} h = pos-nat_abs x (yes_non_neg h)

-- ---- sizes of compound numbers
pub within_wider : {m n : ℕ} {x : ℤ} → Within m x → m ≤ n → Within n x
within_wider h k = record { size = NatL.le_trans h.size k }

pub within-literal : (z : ℤ) → Within (nat_abs z) z
within-literal z = record { size = NatL.le_refl (nat_abs z) }

pub within-opposite : {n : ℕ} {x : ℤ} → Within n x → Within n (neg_ℤ x)
within-opposite {x} h = omega (arith, sizes, opposite-is x)

pub within-sum : {m n : ℕ} {x y : ℤ} → Within m x → Within n y → Within (m + n) (x +ℤ y)
within-sum {x} {y} h k = omega (arith, sizes, sum_is x y)

pub opposite-size : (x : ℤ) → nat_abs (neg_ℤ x) ≡ nat_abs x
opposite-size (pos zero) = refl
opposite-size (pos (suc n)) = refl
opposite-size (negsuc n) = refl

pub product-size : (x y : ℤ) → nat_abs (x *ℤ y) ≡ nat_abs x * nat_abs y
product-size (pos a) (pos b) = refl
product-size (pos a) (negsuc b) = opposite-size (pos (a * suc b))
product-size (negsuc a) (pos b) = opposite-size (pos (suc a * b))
product-size (negsuc a) (negsuc b) = refl

pub within-product : {m n : ℕ} {x y : ℤ} → Within m x → Within n y → Within (m * n) (x *ℤ y)
within-product {x} {y} h k = record { size = rw (product-size x y) (NatL.mul-le-mul h.size k.size) }

-- of a number that is known to be another
pub within-is : {B : ℕ} {x y : ℤ} → x ≡ y → Within B y → Within B x
within-is {B} e h = subst (Within B) (sym e) h
