-- ℤ is a commutative ring: what `lib.IntN` lacks.
-- A law in a number m holds at 0, and where it holds at m it holds at m + 1 and at m − 1 (`by-steps`).
-- `simp (sums, products)` sorts sums and products, so that two that differ in their order become one.
use Rattle.std.specs.Prelude.{◌≡◌, zero, suc, ℤ, pos, negsuc, neg_ℤ, ◌+ℤ◌, ◌-ℤ◌, ◌*ℤ◌}
use Rattle.std.proofs.Common.{sym, ap, ◌∙◌}
use Rattle.std.proofs.Math.IntN.{suc_ℤ, pred_ℤ, one, +ℤ_idl, +ℤ_assoc, +ℤ_comm, +ℤ_invl, +ℤ-neg_ℤ_cancel, suc_ℤ-+ℤ, pred_ℤ-+ℤ, neg_ℤ-neg_ℤ, *ℤ-one, *ℤ_comm, zero-*ℤ, suc_ℤ-*ℤ, pred_ℤ-*ℤ}

module _ (P : ℤ → Type 0) (none : P (pos 0)) (up : (m : ℤ) → P m → P (suc_ℤ m)) (down : (m : ℤ) → P m → P (pred_ℤ m)) where
  by-steps : (m : ℤ) → P m
  by-steps (pos zero) = none
  by-steps (pos (suc n)) = up (pos n) (by-steps (pos n))
  by-steps (negsuc zero) = down (pos 0) none
  by-steps (negsuc (suc n)) = down (negsuc n) (by-steps (negsuc n))

-- ---- sums
pub +ℤ-left-comm : (a b c : ℤ) → a +ℤ (b +ℤ c) ≡ b +ℤ (a +ℤ c)
+ℤ-left-comm a b c = sym (+ℤ_assoc a b c) ∙ ap (λ x. x +ℤ c) (+ℤ_comm a b) ∙ +ℤ_assoc b a c

pub ruleset sums = (+ℤ_assoc, +ℤ_comm, +ℤ-left-comm)

pub opposite-unique : (a b : ℤ) → a +ℤ b ≡ pos 0 → a ≡ neg_ℤ b
opposite-unique a b h = sym (+ℤ-neg_ℤ_cancel a b) ∙ rw h (+ℤ_idl (neg_ℤ b))

pub same-of-difference : (a b : ℤ) → a -ℤ b ≡ pos 0 → a ≡ b
same-of-difference a b h = opposite-unique a (neg_ℤ b) h ∙ neg_ℤ-neg_ℤ b

-- ---- products
pub *ℤ-distr : (m k n : ℤ) → (m +ℤ k) *ℤ n ≡ m *ℤ n +ℤ k *ℤ n
*ℤ-distr m k n =
    by-steps
    (λ x. (x +ℤ k) *ℤ n ≡ x *ℤ n +ℤ k *ℤ n)
    (simp (+ℤ_idl, zero-*ℤ))
    (λ x h. simp (suc_ℤ-+ℤ, suc_ℤ-*ℤ, h) (simp sums))
    (λ x h. simp (pred_ℤ-+ℤ, pred_ℤ-*ℤ, h) (simp sums))
    m

pub *ℤ-distl : (m k n : ℤ) → m *ℤ (k +ℤ n) ≡ m *ℤ k +ℤ m *ℤ n
*ℤ-distl m k n = *ℤ_comm m (k +ℤ n) ∙ *ℤ-distr k n m ∙ simp *ℤ_comm

pub negℤ-*ℤ : (m k : ℤ) → neg_ℤ m *ℤ k ≡ neg_ℤ (m *ℤ k)
negℤ-*ℤ m k = opposite-unique (neg_ℤ m *ℤ k) (m *ℤ k) (sym (*ℤ-distr (neg_ℤ m) m k) ∙ simp (+ℤ_invl, zero-*ℤ))

pub *ℤ-negℤ : (m k : ℤ) → m *ℤ neg_ℤ k ≡ neg_ℤ (m *ℤ k)
*ℤ-negℤ m k = *ℤ_comm m (neg_ℤ k) ∙ negℤ-*ℤ k m ∙ ap neg_ℤ (*ℤ_comm k m)

pub *ℤ-assoc : (m k n : ℤ) → (m *ℤ k) *ℤ n ≡ m *ℤ (k *ℤ n)
*ℤ-assoc m k n =
    by-steps
    (λ x. (x *ℤ k) *ℤ n ≡ x *ℤ (k *ℤ n))
    (simp zero-*ℤ)
    (λ x h. simp (suc_ℤ-*ℤ, *ℤ-distr, h))
    (λ x h. simp (pred_ℤ-*ℤ, *ℤ-distr, negℤ-*ℤ, h))
    m

pub *ℤ-left-comm : (a b c : ℤ) → a *ℤ (b *ℤ c) ≡ b *ℤ (a *ℤ c)
*ℤ-left-comm a b c = sym (*ℤ-assoc a b c) ∙ ap (λ x. x *ℤ c) (*ℤ_comm a b) ∙ *ℤ-assoc b a c

pub ruleset products = (*ℤ-assoc, *ℤ_comm, *ℤ-left-comm)

pub *ℤ-idr : (m : ℤ) → m *ℤ pos 1 ≡ m
unfolding one
*ℤ-idr m = *ℤ-one m

pub *ℤ-idl : (m : ℤ) → pos 1 *ℤ m ≡ m
*ℤ-idl m = *ℤ_comm (pos 1) m ∙ *ℤ-idr m
