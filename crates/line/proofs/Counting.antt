-- The loop of `read_digits`: the digits left say the number behind those that were read, and i digits say less than 10^i.
use mathlib.Core.Path.{◌≡◌, refl, sym, ap, ◌∙◌}
use mathlib.Core.Bool.{Bool, true, false, ◌&&◌}
use mathlib.Core.Logic.{◌⊎◌, inl, inr}
use mathlib.Core.List.{List}
use Prim.Native.Nat.{ℕ, ◌+◌, ◌-◌, ◌*◌, ◌^◌, ◌≤◌, ◌<◌}
use native.Mathlib.Nat.{pow-suc, pow-le-pow_right}
use native.Mathlib.Numerals.{add-one}
use native.Mathlib.Omega.{arith}
use lib.Dec.{eqb, leb, lit<}
use lib.IntN.{pos}
use lib.ListN.{length, drop, get_or, drop_of_length-le}
use Rattle.std.specs.Prelude.{Some, None}
use mir.Syntax.{w64}
use mir.Val.{to_z}
use mir.Facts.{to_z_pos}
use borrow.Author.Tests.{le-leb, lt-leb, eqb-true}
use Rattle.integers.specs.Tests.{not-second}
use Rattle.rules.specs.Decimals.{is_digit, are_digits, value}
use Rattle.rules.specs.Session.{few_digits}
use Rattle.text.specs.Decimals.{digit-range}
use Rattle.text.specs.Places.{drop_here}
use Rattle.line.specs.Reading.{digits_of}

-- ---- ways out that give no digits
no-digits : (part : List ℕ) → few_digits part ≡ false → None ≡ digits_of part
unfolding digits_of
no-digits part e = sym (rw (e, digits_of))

pub other-length : (part : List ℕ) {t : Bool} → t ≡ eqb (length part) 0 → (t ≡ true) ⊎ ((t ≡ false) × (10 < length part)) → None ≡ digits_of part
unfolding few_digits
other-length part e (inl h) =
    let z = eqb-true (length part) 0 (sym e ∙ h) in
    no-digits part (ap (λ (t : Bool). t && (leb (length part) 10 && are_digits part)) (lt-leb 1 (length part) (omega arith)))
other-length part e (inr h) = no-digits part (not-second (leb 1 (length part)) (ap (λ (t : Bool). t && are_digits part) (lt-leb (length part) 10 h.1)))

pub record Reading (part : List ℕ) (i v : ℕ) : Type 0 where
  pub some : 1 ≤ length part
  pub few : length part ≤ 10
  pub count : i ≤ length part
  pub small : v < 10 ^ i
  pub says : value 0 part ≡ value v (drop i part)
  pub digits : are_digits part ≡ are_digits (drop i part)

pub reading-starts : {part : List ℕ} → 1 ≤ length part → length part ≤ 10 → Reading part 0 0
reading-starts h k = record { some = h; few = k; count = omega arith; small = lit< tt; says = refl; digits = refl }

module _ {part : List ℕ} {i v : ℕ} (R : Reading part i v) where
  under : v < 10000000000
  under =
      let c = R.count in
      let f = R.few in
      let ten : i ≤ 10 = omega arith in
      let p = pow-le-pow_right {n = 10} (lit< tt) ten in
      let s = R.small in
      omega arith

  module _ {r : Bool} (h : i < length part) (e : r ≡ is_digit (get_or part i 0)) where
    abbrev here : ℕ
    here = get_or part i 0

    pub digit_low : r ≡ true → 48 ≤ here
    digit_low y = (digit-range here (sym e ∙ y)).0

    digit-high : r ≡ true → here ≤ 57
    digit-high y = (digit-range here (sym e ∙ y)).1

    pub reading-more : r ≡ true → Reading part (i + 1) (v * 10 + (here - 48))
    unfolding value are_digits
    reading-more y = record {
      some = R.some;
      few = R.few;
      count = omega arith;
      small =
          let high = digit-high y in
          let s = R.small in
          let p = pow-suc 10 i in
          rw (add-one i) (omega arith);
      says = R.says ∙ ap (value v) (drop_here part i h);
      digits = R.digits ∙ ap are_digits (drop_here part i h) ∙ ap (λ (t : Bool). t && are_digits (drop (i + 1) part)) (sym e ∙ y);
    }

    pub no_digit : r ≡ false → None ≡ digits_of part
    unfolding few_digits are_digits
    no_digit y = no-digits part (not-second (leb 1 (length part)) (not-second (leb (length part) 10) (R.digits ∙ ap are_digits (drop_here part i h) ∙ ap (λ (t : Bool). t && are_digits (drop (i + 1) part)) (sym e ∙ y))))

  pub all_read : length part ≤ i → Some (to_z w64 v) ≡ digits_of part
  unfolding few_digits are_digits value digits_of
  all_read h =
      let z = drop_of_length-le part h in
      let u = under in
      let few : few_digits part ≡ true =
      ap (λ (t : Bool). t && (leb (length part) 10 && are_digits part)) (le-leb 1 (length part) R.some)
      ∙ ap (λ (t : Bool). t && are_digits part) (le-leb (length part) 10 R.few)
      ∙ R.digits ∙ ap are_digits z in
      ap Some (to_z_pos w64 (omega arith)) ∙ sym (rw (few, digits_of) (ap (λ (n : ℕ). Some (pos n)) (R.says ∙ ap (value v) z)))
