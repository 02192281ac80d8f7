-- How many digits a side has: as many as its logarithm says.
use Rattle.std.proofs.Common.{◌≡◌, sym, ap, ◌∙◌, [], ◌∷◌, ℕ, zero, suc, ◌+◌, ◌*◌, ◌/◌, ◌^◌, ◌≤◌, ◌<◌, length, arith, length-append, pow-suc}
use Rattle.rules.specs.Decimals.{figure, decimal}
use Rattle.stack.specs.Sides.{Side}
use Rattle.text.specs.Decimals.{decimal-one, decimal-more, decimal-length}
use Rattle.p4_write.specs.Slices.{Figures}

digits-many : (k n : ℕ) → 10 ^ k ≤ n → n < 10 * 10 ^ k → length (decimal n) ≡ k + 1
digits-many zero n l h = ap length (decimal-one n h)
digits-many (suc k) n l h =
    let p = pow-suc 10 k in
    let more = digits-many k (n / 10) (omega arith) (omega arith) in
    let e = ap length (decimal-more n (omega arith)) ∙ length-append (decimal (n / 10)) (figure n ∷ []) in
    omega arith

pub figures-of : {n : ℕ} (k : ℕ) → Side n → 10 ^ k ≤ n → n < 10 * 10 ^ k → Figures n (k + 1)
figures-of {n} k s l h = record { is = sym (digits-many k n l h); few = let m = s.most in let e = digits-many k n l h in omega (arith, decimal-length 2 n (omega arith)) }
