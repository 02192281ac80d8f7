-- The display normal's theorems: what each float says, for every input that is permitted; and that the promise leaves no choice.
-- U1 and U2 are among the cases of `rules`.
use Rattle.std.specs.Prelude.{◌≡◌, refl, true, false, ◌≢◌, ℕ, zero, suc, ◌+◌, ◌*◌, ◌^◌, ◌≤◌, ◌<◌, ℤ, pos, negsuc, nat_abs, Float}
use Rattle.std.proofs.Common.{sym, ap, subst, ◌∙◌, mul-le-mul, arith}
use Rattle.std.specs.Float.{fin}
use Rattle.std.specs.Float.Ieee.{binary32, round}
use Rattle.std.specs.Float.Ieee.Exact.{HasValue}
use Rattle.rules.specs.declared.Light.{Light}
use Rattle.rules.specs.Answers.{Display, refused_input}
use Rattle.std.specs.Prelude.{Ok as Lit}
use Rattle.rules.specs.Display.{square, squares, largest, size_of, is_negative, component, permitted_normal, light, display, DisplayPromise}
use Rattle.display.specs.Parts.{Part}
use Rattle.display.specs.Roots.{square-mono, largest-low, largest-within, largest-above}
use Rattle.display.specs.Floats.{exact}
use Rattle.display.specs.Permitted.{permitted-parts}

-- m is the largest whole number with m·m·S ≤ n·n·2^30, and at most 32768. The exact unit component is |n|/√S, so in squares:
-- m/32768 is at most it, and it is below (m + 1)/32768
pub record LargestSize (S : ℕ) (n : ℤ) (m : ℕ) : Type 0 where
  pub at_most : m * m * S ≤ square n * 2 ^ 30
  pub near : square n * 2 ^ 30 < (m + 1) * (m + 1) * S
  pub greatest : (k : ℕ) → k * k * S ≤ square n * 2 ^ 30 → k ≤ m
  pub bound : m ≤ 32768

-- the float f is m/32768 exactly, with n's sign; zero gives +0 and nothing else gives a zero
pub record Exactly (S : ℕ) (n : ℤ) (f : Float) : Type 0 where
  pub m : ℕ
  pub size : LargestSize S n m
  pub value : HasValue f (is_negative n) m 32768
  pub zero-plus : n ≡ pos 0 → f ≡ fin false 0 (pos 0)
  pub other-not-zero : n ≢ pos 0 → 0 < m

pub size-largest : {S : ℕ} {n : ℤ} → Part S n → LargestSize S n (size_of S n)
unfolding size_of
size-largest {S} {n} P =
    let t = square n * 2 ^ 30 in
    let m = largest S t 32768 in
    let greatest : (k : ℕ) → k * k * S ≤ t → k ≤ m = λ k small.
    let part = P.part in
    let some = P.some in
    let below : ¬ (32769 ≤ k) = λ g. let l = square-mono S g in omega arith in
    largest-above S t 32768 k (omega arith) small in
    let above : ¬ ((m + 1) * (m + 1) * S ≤ t) = λ l. let g = greatest (m + 1) l in omega arith in
    record { at_most = largest-low S t 32768; near = omega arith; greatest = greatest; bound = largest-within S t 32768 }

nonzero : (n : ℤ) → n ≢ pos 0 → 1 ≤ nat_abs n
nonzero (pos zero) e = absurd (e refl)
nonzero (pos (suc k)) e = omega arith
nonzero (negsuc k) e = omega arith

plus-zero : round binary32 false 0 32768 ≡ fin false 0 (pos 0)
unfolding round
plus-zero = refl

module _ {S : ℕ} {n : ℤ} (P : Part S n) where
  zero-size : n ≡ pos 0 → size_of S n ≡ 0
  zero-size e =
      let low = (size-largest P).at_most in
      let some = P.some in
      let z = ap square e in
      let none : ¬ (1 ≤ size_of S n) = λ h. let l = square-mono S h in omega arith in
      omega arith

  other-size : n ≢ pos 0 → 0 < size_of S n
  other-size e =
      let small = P.small in
      let h = nonzero n e in
      let l = mul-le-mul h h in
      let some : size_of S n ≢ 0 = λ z. let near = subst (λ (m : ℕ). square n * 2 ^ 30 < (m + 1) * (m + 1) * S) z (size-largest P).near in omega arith in
      omega arith

  pub displayed : Exactly S n (component S n)
  unfolding component
  displayed = record {
    m = size_of S n;
    size = size-largest P;
    value = exact (is_negative n) (size_of S n) (size-largest P).bound;
    zero-plus = λ e. (λ i. round binary32 (is_negative (e i)) (zero-size e i) 32768) ∙ plus-zero;
    other-not-zero = other-size;
  }

-- ---- the demands
pub record Shows (x y z : ℤ) (l : Light) : Type 0 where
  pub first : Exactly (squares x y z) x l.x
  pub second : Exactly (squares x y z) y l.y
  pub third : Exactly (squares x y z) z l.z

-- a permitted normal is lit, and its three floats say what they should
pub permitted-is-lit : (x y z : ℤ) → permitted_normal x y z ≡ true → (display x y z ≡ Lit (light x y z)) × Shows x y z (light x y z)
unfolding light display
permitted-is-lit x y z e =
    let P = permitted-parts x y z e in
    (rw (e, display), record { first = displayed P.first; second = displayed P.second; third = displayed P.third })

-- any other is refused with 30
pub other-is-refused : (x y z : ℤ) → permitted_normal x y z ≡ false → display x y z ≡ refused_input 30
unfolding display
other-is-refused x y z e = rw (e, display)

-- two answers that the promise allows are equal
pub display-settled : {x y z : ℤ} {a b : Display} → DisplayPromise x y z a → DisplayPromise x y z b → a ≡ b
display-settled p q = p.is ∙ sym q.is
