-- A number from low to high, both natural: it may be cast, and the cast is at most high.
use Rattle.std.specs.Prelude.{◌≡◌, true, ℕ, ◌≤◌, T, ℤ, pos, nat_abs}
use Rattle.std.proofs.Common.{sym, subst, arith, Fits}
use Rattle.std.specs.Int.Signed.{non_neg}
use Rattle.std.specs.Int.{w32}
use Rattle.rules.specs.Solids.{between}
use Rattle.range.specs.Ranges.{between-naturals}

pub record Range (low high : ℕ) (z : ℤ) : Type 0 where
  pub natural : T (non_neg z)
  pub at_most : nat_abs z ≤ high

pub range : (low high : ℕ) (z : ℤ) → between (pos low) z (pos high) ≡ true → Range low high z
range low high z e = let h = between-naturals low high z (rw e tt) in record { natural = subst (λ (z : ℤ). T (non_neg z)) (sym h.2) tt; at_most = h.1 }

pub range-fits : {low high : ℕ} {z : ℤ} → Range low high z → high ≤ 256 → T (non_neg z) × Fits w32 (nat_abs z)
range-fits h k = (h.natural, record { fits = omega (arith, h.at_most) })
