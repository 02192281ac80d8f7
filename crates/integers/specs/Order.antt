-- Facts on the order of ℤ, handed to `omega`: each integer is a difference of two naturals.
--     omega (arith, parts)                     where the sides of ≤ℤ, <ℤ and ≡ are variables or literals
--     goal (search linear) (omega arith)       for a goal with sums, products and opposites, after `let a = atom x in` for each atom x
--     fact (search linear) h                   for such a hypothesis h, in `omega`'s list
-- A product of two atoms is an atom to `omega`: state the multiplied fact first (`*ℤ-mono`).
use Rattle.std.specs.Prelude.{◌≡◌, refl, Bool, true, false, cond, not, ℕ, zero, suc, ◌+◌, ◌*◌, ◌≤◌, ◌<◌, T, ltb, ℤ, pos, negsuc, neg_ℤ, ◌+ℤ◌, ◌*ℤ◌, ◌≤ℤ◌, ◌<ℤ◌}
use Rattle.std.proofs.Common.{sym, ap, ◌∙◌, arith, ltb→lt, nltb→le, leb→le, le→leb}
use Rattle.std.proofs.Math.Nat as NatL
use Rattle.std.proofs.Math.Dec.{not_T}
use Rattle.std.proofs.Math.Facts.{T_not-not}
use Rattle.std.proofs.Math.IntN.{sub_ℕ}
use Rattle.std.specs.Int.Signed.{lt_z, lt_z_no, clash_ℤ}

-- z is `above z` − `below z`
abbrev pub above : ℤ → ℕ
above (pos n) = n
above (negsuc n) = 0

abbrev pub below : ℤ → ℕ
below (pos n) = 0
below (negsuc n) = suc n

-- ---- the order, by these parts
pub le_parts : {x y : ℤ} → x ≤ℤ y → above x + below y ≤ above y + below x
le_parts {x = pos a} {y = pos b} h = omega (arith, leb→le a b h.le)
le_parts {x = pos a} {y = negsuc b} h = absurd h.le
le_parts {x = negsuc a} {y = pos b} h = omega arith
le_parts {x = negsuc a} {y = negsuc b} h = omega (arith, leb→le b a h.le)

pub parts-le : {x y : ℤ} → above x + below y ≤ above y + below x → x ≤ℤ y
parts-le {x = pos a} {y = pos b} h = record { le = le→leb a b (omega arith) }
parts-le {x = pos a} {y = negsuc b} h = absurd (omega arith)
parts-le {x = negsuc a} {y = pos b} h = record { le = tt }
parts-le {x = negsuc a} {y = negsuc b} h = record { le = le→leb b a (omega arith) }

pub lt-parts : {x y : ℤ} → x <ℤ y → above x + below y < above y + below x
lt-parts {x} {y} h =
    let no : ¬ (above y + below x ≤ above x + below y) = λ k. clash_ℤ h (parts-le k) in
    omega arith

pub parts-lt : {x y : ℤ} → above x + below y < above y + below x → x <ℤ y
parts-lt {x} {y} h = record { lt = T_not-not (lt_z x y) (not_T (not (lt_z x y)) (λ t. no (le_parts (lt_z_no {a = x} {b = y} t)))) }
  where
    no : ¬ (above y + below x ≤ above x + below y)
    no k = omega arith

pub eq-parts : {x y : ℤ} → x ≡ y → above x + below y ≡ above y + below x
eq-parts {x} {y} h = ap (λ z. above z + below y) h ∙ ap (λ z. above y + below z) (sym h)

pub parts-eq : {x y : ℤ} → above x + below y ≡ above y + below x → x ≡ y
parts-eq {x = pos a} {y = pos b} h = ap pos (omega arith)
parts-eq {x = pos a} {y = negsuc b} h = absurd (omega arith)
parts-eq {x = negsuc a} {y = pos b} h = absurd (omega arith)
parts-eq {x = negsuc a} {y = negsuc b} h = ap negsuc (omega arith)

pub ruleset parts = (le_parts, lt-parts, eq-parts, parts-le, parts-lt, parts-eq)

-- ---- the parts of a compound number
-- z is plus − minus
pub record Difference (z : ℤ) : Type 0 where
  pub plus : ℕ
  pub minus : ℕ
  pub is : above z + minus ≡ plus + below z

by_cond : (P : ℤ → Type 0) (t : Bool) {x y : ℤ} → (T t → P x) → (T (not t) → P y) → P (cond t x y)
by_cond P true f g = f tt
by_cond P false f g = g tt

subℕ-is : (a b : ℕ) → above (sub_ℕ a b) + b ≡ a + below (sub_ℕ a b)
subℕ-is a b =
    by_cond (λ z. above z + b ≡ a + below z) (ltb a b) (λ t. omega (arith, ltb→lt a b t)) (λ t. omega (arith, nltb→le a b t))

pub opposite-is : (x : ℤ) → above (neg_ℤ x) + above x ≡ below x + below (neg_ℤ x)
opposite-is (pos zero) = refl
opposite-is (pos (suc n)) = omega arith
opposite-is (negsuc n) = omega arith

pub sum_is : (x y : ℤ) → above (x +ℤ y) + (below x + below y) ≡ (above x + above y) + below (x +ℤ y)
sum_is (pos a) (pos b) = omega arith
sum_is (pos a) (negsuc b) = omega (arith, subℕ-is a (suc b))
sum_is (negsuc a) (pos b) = omega (arith, subℕ-is b (suc a))
sum_is (negsuc a) (negsuc b) = omega arith

pub product_is : (x y : ℤ)
    → above (x *ℤ y) + (above x * below y + below x * above y) ≡ (above x * above y + below x * below y) + below (x *ℤ y)
product_is (pos a) (pos b) = omega arith
product_is (pos a) (negsuc b) = omega (arith, opposite-is (pos (a * suc b)))
product_is (negsuc a) (pos b) = omega (arith, opposite-is (pos (suc a * b)))
product_is (negsuc a) (negsuc b) = omega arith

abbrev pub atom : (z : ℤ) → Difference z
atom z = record { plus = above z; minus = below z; is = refl }

abbrev pub literal-parts : {n : ℕ} → Difference (pos n)
literal-parts {n} = record { plus = n; minus = 0; is = refl }

abbrev pub negative-parts : {n : ℕ} → Difference (negsuc n)
negative-parts {n} = record { plus = 0; minus = suc n; is = refl }

abbrev pub opposite_parts : {x : ℤ} → Difference x → Difference (neg_ℤ x)
opposite_parts {x} a = record { plus = a.minus; minus = a.plus; is = omega (arith, opposite-is x) }

abbrev pub sum-parts : {x y : ℤ} → Difference x → Difference y → Difference (x +ℤ y)
sum-parts {x} {y} a b = record { plus = a.plus + b.plus; minus = a.minus + b.minus; is = omega (arith, sum_is x y) }

pub times : {m n : ℕ} (k : ℕ) → m ≡ n → m * k ≡ n * k
times k e = ap (λ (i : ℕ). i * k) e

abbrev pub product-parts : {x y : ℤ} → Difference x → Difference y → Difference (x *ℤ y)
product-parts {x} {y} a b = record {
  plus = a.plus * b.plus + a.minus * b.minus;
  minus = a.plus * b.minus + a.minus * b.plus;
  is = omega (arith, product_is x y, times (above y) a.is, times (below y) a.is, times a.plus b.is, times a.minus b.is);
}

-- ---- a statement on integers, told as one on naturals
pub record Linear (A : Type 0) : Type 1 where
  pub OnNaturals : Type 0
  pub tell : A → OnNaturals
  pub ask : OnNaturals → A

abbrev pub le-linear : {x y : ℤ} → Difference x → Difference y → Linear (x ≤ℤ y)
le-linear a b = record {
  OnNaturals = a.plus + b.minus ≤ b.plus + a.minus;
  tell = λ h. omega (arith, parts);
  ask = λ h. omega (arith, parts);
}

abbrev pub lt-linear : {x y : ℤ} → Difference x → Difference y → Linear (x <ℤ y)
lt-linear a b = record {
  OnNaturals = a.plus + b.minus < b.plus + a.minus;
  tell = λ h. omega (arith, parts);
  ask = λ h. omega (arith, parts);
}

abbrev pub eq-linear : {x y : ℤ} → Difference x → Difference y → Linear (x ≡ y)
eq-linear a b = record {
  OnNaturals = a.plus + b.minus ≡ b.plus + a.minus;
  tell = λ h. omega (arith, parts);
  ask = λ h. omega (arith, parts);
}

pub ruleset linear = (le-linear, lt-linear, eq-linear, sum-parts, opposite_parts, product-parts, literal-parts, negative-parts)

pub goal : {A : Type 0} (s : Linear A) → s.OnNaturals → A
goal s = s.ask

pub fact : {A : Type 0} (s : Linear A) → A → s.OnNaturals
fact s = s.tell

-- ---- products
-- a factor that is not negative keeps the order
pub *ℤ-mono : {a b c : ℤ} → pos 0 ≤ℤ a → b ≤ℤ c → (a *ℤ b) ≤ℤ (a *ℤ c)
*ℤ-mono {a = pos n} {b} {c} h k =
    let y = atom b in let z = atom c in
    goal (search linear) (omega (arith, NatL.mul-le-mul_left n (le_parts k)))
*ℤ-mono {a = negsuc n} h k = absurd h.le

pub square-from-zero : (x : ℤ) → pos 0 ≤ℤ (x *ℤ x)
square-from-zero (pos n) = goal (search linear) (omega arith)
square-from-zero (negsuc n) = goal (search linear) (omega arith)
