-- A number: its digits, its sign, and whether 32 bits hold it.
use mathlib.Core.Path.{◌≡◌, refl, sym, ap, subst, ◌∙◌}
use mathlib.Core.Bool.{Bool, true, false, ◌&&◌}
use mathlib.Core.Logic.{◌≢◌}
use mathlib.Core.List.{List, [], ◌∷◌}
use Prim.Native.Nat.{ℕ, zero, suc, ◌-◌, ◌<◌}
use native.Mathlib.Omega.{arith}
use lib.IntN.{ℤ, pos, negsuc, neg_ℤ, nat_abs, ◌-ℤ◌, +ℤ_idl}
use lib.Signed.{◌≤ℤ◌}
use lib.ListN.{length, take, drop, get_or, length-drop}
use lib.Seq.{take_all}
use lib.Dec.{eqb}
use borrow.Author.Tests.{eq-eqb, ne_eqb, eqb-true, le-leb, lt-leb}
use mir.Syntax.{w32, w64}
use mir.Val.{SFits, to_z, of_z}
use mir.Facts.{to_z-of_z}
use Rattle.std.specs.Prelude.{Option, Some, None, Result, Ok, Err}
use Rattle.std.specs.Prelude.{T}
use Rattle.std.specs.Option.{is_some}
use Rattle.std.specs.Result.{OkIff, result_ok}
use Rattle.std.proofs.Common.{rules}
use Rattle.integers.specs.Sizes.{natural}
use Rattle.rules.specs.Answers.{Number}
use Rattle.rules.specs.Solids.{between}
use Rattle.rules.specs.Decimals.{value}
use Rattle.rules.specs.Session.{few_digits, within32, signed, minus, number}
use Rattle.line.specs.Reading.{digits_of, NumberRead}

-- ---- 32 bits
held : (z : ℤ) → SFits w32 z → between (negsuc 2147483647) z (pos 2147483647) ≡ true
unfolding between
held (pos n) f = le-leb n 2147483647 (let h = f.sfits in omega arith)
held (negsuc n) f = ap (λ (t : Bool). t && true) (le-leb n 2147483647 (let h = f.sfits in omega arith))

not-held : (z : ℤ) → ¬ (SFits w32 z) → between (negsuc 2147483647) z (pos 2147483647) ≡ false
unfolding between
not-held (pos n) g = let h : ¬ (n < 2147483648) = λ l. g (record { sfits = l }) in lt-leb n 2147483647 (omega arith)
not-held (negsuc n) g = let h : ¬ (n < 2147483648) = λ l. g (record { sfits = l }) in ap (λ (t : Bool). t && true) (lt-leb n 2147483647 (omega arith))

pub in_32 : {E : Type 0} (r : Result ℤ E) (z : ℤ) → OkIff r (SFits w32 z) z → result_ok r ≡ within32 z
unfolding within32
in_32 (Ok x) z h = ap Some h.1 ∙ sym (rw (held z h.0, within32) refl)
in_32 (Err e) z h = sym (rw (not-held z h, within32) refl)

-- ---- the digits
module _ (part : List ℕ) where
  some_digits : {v : ℤ} → Some v ≡ digits_of part → (few_digits part ≡ true) × (v ≡ pos (value 0 part))
  unfolding digits_of
  some_digits {v} = by (few_digits part) refl
    where
      this : Option ℤ → ℤ
      this None = v
      this (Some x) = x

      by : (t : Bool) → few_digits part ≡ t → Some v ≡ digits_of part → (few_digits part ≡ true) × (v ≡ pos (value 0 part))
      by true e s = (e, let d : Some v ≡ Some (pos (value 0 part)) = rw (e, digits_of) at s in ap this d)
      by false e s = absurd (subst T (ap is_some (rw (e, digits_of) at s)) tt)

  signed_some : (sign : ℕ → ℤ) {v : ℤ} → Some v ≡ digits_of part → signed sign part ≡ within32 (sign (value 0 part))
  unfolding signed
  signed_some sign s = rw ((some_digits s).0, signed) refl

  signed-none : (sign : ℕ → ℤ) → None ≡ digits_of part → signed sign part ≡ None
  unfolding digits_of signed
  signed-none sign = by (few_digits part) refl
    where
      by : (t : Bool) → few_digits part ≡ t → None ≡ digits_of part → signed sign part ≡ None
      by true e s = absurd (subst T (ap is_some (sym (rw (e, digits_of) at s))) tt)
      by false e s = rw (e, signed) refl

-- ---- the sign
module _ {v : ℤ} (f : SFits w64 v) (h : pos 0 ≤ℤ v) where
  opposite-is : pos 0 -ℤ to_z w64 (of_z w64 v) ≡ neg_ℤ v
  opposite-is = ap (λ (z : ℤ). pos 0 -ℤ z) (to_z-of_z f) ∙ +ℤ_idl (neg_ℤ v)

  pub opposite-fits : SFits w64 (pos 0 -ℤ to_z w64 (of_z w64 v))
  opposite-fits = subst (SFits w64) (sym (opposite-is ∙ ap neg_ℤ (sym (natural h)))) (small (nat_abs v) (subst (SFits w64) (sym (natural h)) f))
    where
      small : (n : ℕ) → SFits w64 (pos n) → SFits w64 (minus n)
      small zero k = k
      small (suc n) k = record { sfits = let l = k.sfits in omega arith }

  pub opposite-back : to_z w64 (of_z w64 (pos 0 -ℤ to_z w64 (of_z w64 v))) ≡ neg_ℤ v
  opposite-back = to_z-of_z opposite-fits ∙ opposite-is

  -- -0 is a number: for an edit, which is to be refused for that, not for setting 0 apart
  pub opposite-zero : of_z w64 v ≡ 0 → within32 (neg_ℤ v) ≡ Some (pos 0)
  unfolding within32 between
  opposite-zero e = ap (λ (z : ℤ). within32 (neg_ℤ z)) (sym (to_z-of_z f) ∙ ap (to_z w64) e)

pub ruleset opposite = (opposite-fits, opposite-back, opposite-zero)

pub no_minus : {v : ℤ} (part : List ℕ) → SFits w64 v → Some v ≡ digits_of part → pos 0 ≤ℤ to_z w64 (of_z w64 v)
no_minus part f d = subst (λ (z : ℤ). pos 0 ≤ℤ z) (sym (to_z-of_z f ∙ (some_digits part d).1)) (search rules)

module _ {part : List ℕ} where
  pub empty : {t : Bool} → t ≡ eqb (length part) 0 → t ≡ true → NumberRead part None
  unfolding number signed few_digits
  empty e h = none part (eqb-true (length part) 0 (sym e ∙ h))
    where
      none : (part : List ℕ) → length part ≡ 0 → NumberRead part None
      none [] z = record { is = refl }
      none (b ∷ more) z = absurd (omega arith)

  module _ {r : Number} where
    of_minus : get_or part 0 0 ≡ 45 → r ≡ signed minus (drop 1 part) → NumberRead part r
    unfolding number
    of_minus e s = record { is = s ∙ sym (rw (eq-eqb (get_or part 0 0) 45 e, number) refl) }

    without-minus : get_or part 0 0 ≢ 45 → r ≡ signed pos part → NumberRead part r
    unfolding number
    without-minus e s = record { is = s ∙ sym (rw (ne_eqb (get_or part 0 0) 45 e, number) refl) }

    pub minus-none : get_or part 0 0 ≡ 45 → None ≡ digits_of (take (length part - 1) (drop 1 part)) → r ≡ None → NumberRead part r
    minus-none e d n =
        let all = take_all (length part - 1) (drop 1 part) (simp length-drop (omega arith)) in
        of_minus e (n ∙ sym (signed-none (drop 1 part) minus (rw all at d)))

    pub plus-none : get_or part 0 0 ≢ 45 → None ≡ digits_of part → r ≡ None → NumberRead part r
    plus-none e d n = without-minus e (n ∙ sym (signed-none part pos d))

    module _ {v : ℤ} (f : SFits w64 v) where
      pub plus-some : get_or part 0 0 ≢ 45 → Some v ≡ digits_of part → r ≡ within32 (to_z w64 (of_z w64 v)) → NumberRead part r
      plus-some e d n = without-minus e (n ∙ ap within32 (to_z-of_z f ∙ (some_digits part d).1) ∙ sym (signed_some part pos d))

      pub minus-some : get_or part 0 0 ≡ 45 → Some v ≡ digits_of (take (length part - 1) (drop 1 part)) → r ≡ within32 (neg_ℤ (to_z w64 (of_z w64 v))) → NumberRead part r
      minus-some e d n =
          let all = take_all (length part - 1) (drop 1 part) (simp length-drop (omega arith)) in
          let plain = rw all at d in
          of_minus e (n ∙ ap (λ (z : ℤ). within32 (neg_ℤ z)) (to_z-of_z f ∙ (some_digits (drop 1 part) plain).1) ∙ sym (signed_some (drop 1 part) minus plain))
