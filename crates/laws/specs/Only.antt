-- Lists: what holds of each member, and of those that a test lets through.
use Rattle.std.proofs.Math.Path.{◌≡◌, refl}
use Rattle.std.proofs.Common.{sym, ap, subst, ◌∙◌, arith}
use Rattle.std.proofs.Math.Logic.{inl, inr}
use Rattle.std.specs.Prelude.{Bool, ℕ}
use Rattle.std.proofs.Math.Bool.{true, false}
use mathlib.Core.List.{List, [], ◌∷◌, ◌++◌, map}
use Rattle.std.proofs.Math.Dec.{T}
use Rattle.rules.specs.declared.Levels.{Levels}
use Rattle.rules.specs.declared.Pair.{Pair}
use Rattle.rules.specs.declared.Pair.TheVariants.{P01, P02, P10, P12, P20, P21}
use Rattle.rules.specs.Walk.{pairs, keep, only, takes_part}
use Rattle.laws.specs.Tests.{Each, In}

module _ {A : Type 0} where
  pub each_of : (P Q : A → Type 0) (xs : List A) → ((x : A) → P x → Q x) → Each P xs → Each Q xs
  each_of P Q [] f h = tt
  each_of P Q (x ∷ xs) f h = (f x h.0, each_of P Q xs f h.1)

  pub each-both-of : (P Q S : A → Type 0) (xs : List A) → ((x : A) → P x → Q x → S x) → Each P xs → Each Q xs → Each S xs
  each-both-of P Q S [] f h k = tt
  each-both-of P Q S (x ∷ xs) f h k = (f x h.0 k.0, each-both-of P Q S xs f h.1 k.1)

  pub each_both : (P : A → Type 0) (xs ys : List A) → Each P xs → Each P ys → Each P (xs ++ ys)
  each_both P [] ys h k = k
  each_both P (x ∷ xs) ys h k = (h.0, each_both P xs ys h.1 k)

  pub each_map : {B : Type 0} (P : B → Type 0) (f : A → B) (xs : List A) → Each (λ x. P (f x)) xs → Each P (map f xs)
  each_map P f [] h = tt
  each_map P f (x ∷ xs) h = (h.0, each_map P f xs h.1)

  -- of a member
  pub each_member : (P : A → Type 0) (x : A) (xs : List A) → Each P xs → In x xs → P x
  each_member P x [] h i = absurd i
  each_member P x (y ∷ ys) h (inl e) = subst P (sym e) h.0
  each_member P x (y ∷ ys) h (inr i) = each_member P x ys h.1 i

  -- each is one of them
  pub each_in : (xs : List A) → Each (λ x. In x xs) xs
  each_in [] = tt
  each_in (x ∷ xs) = (inl refl, each_of (λ y. In y xs) (λ y. In y (x ∷ xs)) xs (λ y i. inr i) (each_in xs))

  module _ (test : A → Bool) where
    pub only-holds : (xs : List A) → Each (λ x. T (test x)) (only test xs)
    unfolding only keep
    only-holds [] = tt
    only-holds (x ∷ xs) = go (test x) refl (only-holds xs)
      where
        go : (b : Bool) → test x ≡ b → Each (λ x. T (test x)) (only test xs) → Each (λ x. T (test x)) (keep b x (only test xs))
        go true e r = (rw e tt, r)
        go false e r = r

    -- a member of those that are let through
    pub only-in : (x : A) (xs : List A) → In x (only test xs) → T (test x)
    unfolding only keep
    only-in x [] h = absurd h
    only-in x (y ∷ ys) h = go (test y) refl h (only-in x ys)
      where
        go : (b : Bool) → test y ≡ b → In x (keep b y (only test ys)) → (In x (only test ys) → T (test x)) → T (test x)
        go true e (inl p) r = rw (p, e) tt
        go true e (inr i) r = r i
        go false e i r = r i

    pub in-only : (x : A) (xs : List A) → In x xs → T (test x) → In x (only test xs)
    unfolding only keep
    in-only x [] i t = absurd i
    in-only x (y ∷ ys) i t = go (test y) refl i (λ i. in-only x ys i t)
      where
        go : (b : Bool) → test y ≡ b → In x (y ∷ ys) → (In x ys → In x (only test ys)) → In x (keep b y (only test ys))
        go true e (inl p) r = inl p
        go true e (inr i) r = inr (r i)
        go false e (inl p) r = absurd (subst T (ap test p ∙ e) t)
        go false e (inr i) r = r i

    -- what holds of each holds of each that is let through
    pub only-each : (P : A → Type 0) (xs : List A) → Each P xs → Each P (only test xs)
    unfolding only keep
    only-each P [] h = tt
    only-each P (x ∷ xs) h = go (test x) (only-each P xs h.1)
      where
        go : (b : Bool) → Each P (only test xs) → Each P (keep b x (only test xs))
        go true r = (h.0, r)
        go false r = r

    -- none is let through
    pub only_none : (xs : List A) → only test xs ≡ [] → Each (λ x. test x ≡ false) xs
    unfolding only keep
    only_none [] e = tt
    only_none (x ∷ xs) e = go (test x) refl e (only_none xs)
      where
        go : (b : Bool) → test x ≡ b → keep b x (only test xs) ≡ [] → (only test xs ≡ [] → Each (λ x. test x ≡ false) xs) → Each (λ x. test x ≡ false) (x ∷ xs)
        go true t e r = absurd (let z : ◌≡◌ {A = ℕ} 0 1 = cc in omega arith)
        go false t e r = (t, r e)

-- ---- the pairs
pair-in : (x : Pair) → In x pairs
pair-in P01 = inl refl
pair-in P02 = inr (inl refl)
pair-in P10 = inr (inr (inl refl))
pair-in P12 = inr (inr (inr (inl refl)))
pair-in P20 = inr (inr (inr (inr (inl refl))))
pair-in P21 = inr (inr (inr (inr (inr (inl refl)))))

-- so of each pair that takes part
pub taking-in : (v : Levels) (x : Pair) → T (takes_part v x) → In x (only (takes_part v) pairs)
taking-in v x = in-only (takes_part v) x pairs (pair-in x)
