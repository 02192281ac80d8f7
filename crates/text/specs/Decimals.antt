-- Laws of decimal numbers: a digit's byte, the digits one at a time, and how many there are.
use Rattle.std.specs.Prelude.{◌≡◌, refl, Bool, true, false, List, [], ◌∷◌, ◌++◌, ℕ, zero, suc, ◌/◌, ◌^◌, ◌≤◌, ◌<◌, leb, ltb, ℤ, pos, negsuc, nat_abs, length}
use Rattle.std.proofs.Common.{sym, ap, ◌∙◌, pow-suc, arith, length-append, lt-ltb, le-ltb, leb-true, ltb-true, ltb-false}
use Rattle.integers.specs.Tests.{first_of, second-of}
use Rattle.rules.specs.Decimals.{is_digit, figure, digits, decimal, signed_decimal}

pub digit-range : (b : ℕ) → is_digit b ≡ true → (48 ≤ b) × (b ≤ 57)
unfolding is_digit
digit-range b e = (leb-true 48 b (first_of (leb 48 b) (leb b 57) e), leb-true b 57 (second-of (leb 48 b) (leb b 57) e))

one-digit : (f n : ℕ) → n < 10 → digits f n ≡ figure n ∷ []
unfolding digits
one-digit zero n h = refl
one-digit (suc f) n h = rw (lt-ltb n 10 h, digits)

more-digits : (f n : ℕ) → 10 ≤ n → digits (suc f) n ≡ digits f (n / 10) ++ (figure n ∷ [])
unfolding digits
more-digits f n h = rw (le-ltb n 10 h, digits)

-- a count of digits that is large enough plays no part
enough : (f g n : ℕ) → n ≤ f → n ≤ g → digits f n ≡ digits g n
enough zero g n h k = one-digit zero n (omega arith) ∙ sym (one-digit g n (omega arith))
enough (suc f) zero n h k = one-digit (suc f) n (omega arith) ∙ sym (one-digit zero n (omega arith))
enough (suc f) (suc g) n h k = by (ltb n 10) refl (enough f g (n / 10) (omega arith) (omega arith))
  where
    by : (t : Bool) → ltb n 10 ≡ t → digits f (n / 10) ≡ digits g (n / 10) → digits (suc f) n ≡ digits (suc g) n
    by true e same = let l = ltb-true n 10 e in one-digit (suc f) n l ∙ sym (one-digit (suc g) n l)
    by false e same =
        let l = ltb-false n 10 e in
        more-digits f n l ∙ ap (λ (d : List ℕ). d ++ (figure n ∷ [])) same ∙ sym (more-digits g n l)

pub decimal-one : (n : ℕ) → n < 10 → decimal n ≡ figure n ∷ []
decimal-one n = one-digit n n

pub decimal-more : (n : ℕ) → 10 ≤ n → decimal n ≡ decimal (n / 10) ++ (figure n ∷ [])
decimal-more n h =
    enough n (suc n) n (omega arith) (omega arith)
    ∙ more-digits n n h
    ∙ ap (λ (d : List ℕ). d ++ (figure n ∷ [])) (enough n (n / 10) (n / 10) (omega arith) (omega arith))

-- ---- lengths
pub decimal-length : (k n : ℕ) → n < 10 ^ suc k → length (decimal n) ≤ suc k
decimal-length zero n h = omega (arith, ap length (decimal-one n h))
decimal-length (suc k) n h = by (ltb n 10) refl (decimal-length k (n / 10))
  where
    by : (t : Bool) → ltb n 10 ≡ t → (n / 10 < 10 ^ suc k → length (decimal (n / 10)) ≤ suc k) → length (decimal n) ≤ suc (suc k)
    by true e shorter = omega (arith, ap length (decimal-one n (ltb-true n 10 e)))
    by false e shorter =
        let p = pow-suc 10 (suc k) in
        let l = shorter (omega arith) in
        let m = length-append (decimal (n / 10)) (figure n ∷ []) in
        omega (arith, ap length (decimal-more n (ltb-false n 10 e)))

pub signed-length : (k : ℕ) (z : ℤ) → nat_abs z < 10 ^ suc k → length (signed_decimal z) ≤ suc (suc k)
signed-length k (pos n) h = omega (arith, decimal-length k n h)
signed-length k (negsuc n) h = omega (arith, decimal-length k (suc n) h)
