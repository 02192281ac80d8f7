-- Tests that passed or failed, and what holds of each member of a list.
use Rattle.std.specs.Prelude.{◌≡◌, refl, ◌⊎◌, Bool, true, false, not, List, [], ◌∷◌, T, ℤ, ◌≤ℤ◌, ◌<ℤ◌}
use Rattle.std.proofs.Common.{inl, inr}
use Rattle.std.specs.Int.Signed.{lt_z, lt_z_yes, lt_z_no, clash_ℤ}

pub is_true : (b : Bool) → T b → b ≡ true
is_true true h = refl
is_true false h = absurd h

pub is_false : (b : Bool) → (T b → ⊥) → b ≡ false
is_false true h = absurd (h tt)
is_false false h = refl

pub is-not : (b : Bool) → T (not b) → b ≡ false
is-not true h = absurd h
is-not false h = refl

pub less : (a b : ℤ) → a <ℤ b → lt_z a b ≡ true
less a b h = is_true (lt_z a b) h.lt

pub not-less : (a b : ℤ) → b ≤ℤ a → lt_z a b ≡ false
not-less a b h = is_false (lt_z a b) (λ t. clash_ℤ (lt_z_yes t) h)

pub compared : (a b : ℤ) → (a <ℤ b) ⊎ (b ≤ℤ a)
compared a b = go (lt_z a b) refl
  where
    go : (t : Bool) → lt_z a b ≡ t → (a <ℤ b) ⊎ (b ≤ℤ a)
    go true e = inl (lt_z_yes (rw e tt))
    go false e = inr (lt_z_no (rw e tt))

-- ---- lists
abbrev pub Each : {A : Type 0} → (A → Type 0) → List A → Type 0
Each P [] = Unit {0}
Each P (x ∷ xs) = P x × Each P xs

abbrev pub In : {A : Type 0} → A → List A → Type 0
In y [] = ⊥
In y (x ∷ xs) = (y ≡ x) ⊎ In y xs
