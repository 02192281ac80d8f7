-- A judgement step by step: how it goes on or ends by what its first part gives, and what each part gave if all is good.
use Rattle.std.proofs.Math.Path.{◌≡◌, refl, ap}
use Rattle.std.specs.Prelude.{Bool, ℕ}
use Rattle.std.proofs.Math.Bool.{true, false}
use Rattle.std.proofs.Common.{arith}
use Rattle.rules.specs.P4.{Judged, good, wrong, ◌>>=◌, judge}

module _ {A B : Type 0} (k : A → Judged B) where
  pub on : {x : Judged A} {a : A} → x ≡ good a → (x >>= k) ≡ k a
  unfolding ◌>>=◌
  on e = ap (λ (x : Judged A). x >>= k) e

  pub off : {x : Judged A} {n p : ℕ} → x ≡ wrong n p → (x >>= k) ≡ wrong n p
  unfolding ◌>>=◌
  off e = ap (λ (x : Judged A). x >>= k) e

  pub made : (x : Judged A) {b : B} → (x >>= k) ≡ good b → (a : A) × (x ≡ good a) × (k a ≡ good b)
  unfolding ◌>>=◌
  made (good a) e = (a, refl, e)
  made (wrong n p) {b} e = let z : ◌≡◌ {A = ℕ} 0 1 = cc in absurd (omega arith)

module _ {B : Type 0} (n p : ℕ) (k : Unit {0} → Judged B) where
  pub pass : {t : Bool} → t ≡ true → (judge t n p >>= k) ≡ k tt
  unfolding ◌>>=◌ judge
  pass e = ap (λ (t : Bool). judge t n p >>= k) e

  pub fail : {t : Bool} → t ≡ false → (judge t n p >>= k) ≡ wrong n p
  unfolding ◌>>=◌ judge
  fail e = ap (λ (t : Bool). judge t n p >>= k) e

  pub passed : (t : Bool) {b : B} → (judge t n p >>= k) ≡ good b → (t ≡ true) × (k tt ≡ good b)
  unfolding ◌>>=◌ judge
  passed true e = (refl, e)
  passed false {b} e = let z : ◌≡◌ {A = ℕ} 0 1 = cc in absurd (omega arith)
