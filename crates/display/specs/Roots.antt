-- `largest` is what its name says: its square is not too large, and every number of which that holds is at most it. So a number found in any way is it.
use Rattle.std.specs.Prelude.{◌≡◌, Bool}
use Rattle.std.proofs.Math.Path.{refl}
use Rattle.std.proofs.Math.Bool.{true, false}
use Prim.Native.Nat.{ℕ, zero, suc, ◌+◌, ◌*◌, ◌≤◌, ◌<◌}
use Rattle.std.proofs.Common.{mul-le-mul, le_refl, zero-mul}
use native.Mathlib.Omega.{arith}
use Rattle.std.proofs.Math.Dec.{leb}
use borrow.Author.Tests.{leb-true, leb-false}
use Rattle.rules.specs.Display.{largest}

pub square-mono : {m n : ℕ} (S : ℕ) → m ≤ n → m * m * S ≤ n * n * S
square-mono S h = mul-le-mul (mul-le-mul h h) (le_refl S)

module _ (S t : ℕ) where
  pub largest-low : (b : ℕ) → largest S t b * largest S t b * S ≤ t
  unfolding largest
  largest-low zero = rw (zero-mul S) (omega arith)
  largest-low (suc b) = by (leb (suc b * suc b * S) t) refl (largest-low b)
    where
      by : (r : Bool) → leb (suc b * suc b * S) t ≡ r → largest S t b * largest S t b * S ≤ t → largest S t (suc b) * largest S t (suc b) * S ≤ t
      by true e below = rw (e, largest) (leb-true _ _ e)
      by false e below = rw (e, largest) below

  pub largest-within : (b : ℕ) → largest S t b ≤ b
  unfolding largest
  largest-within zero = omega arith
  largest-within (suc b) = by (leb (suc b * suc b * S) t) refl (largest-within b)
    where
      by : (r : Bool) → leb (suc b * suc b * S) t ≡ r → largest S t b ≤ b → largest S t (suc b) ≤ suc b
      by true e below = rw (e, largest) (le_refl (suc b))
      by false e below = rw (e, largest) (omega arith)

  pub largest-above : (b k : ℕ) → k ≤ b → k * k * S ≤ t → k ≤ largest S t b
  unfolding largest
  largest-above zero k h small = omega arith
  largest-above (suc b) k h small = by (leb (suc b * suc b * S) t) refl (largest-above b k)
    where
      by : (r : Bool) → leb (suc b * suc b * S) t ≡ r → (k ≤ b → k * k * S ≤ t → k ≤ largest S t b) → k ≤ largest S t (suc b)
      by true e below = rw (e, largest) h
      by false e below =
          let l = leb-false (suc b * suc b * S) t e in
          let n : ¬ (suc b ≤ k) = λ g. let m = square-mono S g in omega arith in
          rw (e, largest) (below (omega arith) small)

  pub largest-is : (b m : ℕ) → m ≤ b → m * m * S ≤ t → t < (m + 1) * (m + 1) * S → m ≡ largest S t b
  largest-is b m h low high =
      let l = largest-low b in
      let a = largest-above b m h low in
      let n : ¬ (m + 1 ≤ largest S t b) = λ g. let k = square-mono S g in omega arith in
      omega arith
