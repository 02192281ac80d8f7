-- The machine's signed numbers, at every width. A signed local holds bits, so a need speaks of what is read back, `to_z w (of_z w z)`,
-- nested once for each operation. `search machine` finds the number that such a term stands for and a bound on its size; `tt` answers
-- that everything on the way fits, which computes. The bounds come from hypotheses `Within B x`, and `n ≤ B` of a natural n.
--     fits (search machine) tt               a need `SFits w z`: a sum, a product, a cast
--     value (search machine) tt              a number, a size or a test is what it is without the bits
--     without-bits e (search machine) tt     the same of a fact e that a test left
--     within (search machine) tt             `Within B z`
--     fits-unsigned (search machine) tt h    a cast to an unsigned width, with h : pos 0 ≤ℤ x of the number x
-- A long term wants `search machine depth 30 fits 5000`; a number of which only the type is known, `search (machine, typed)`.
use Rattle.std.specs.Prelude.{◌≡◌, refl, Bool, true, false, ◌&&◌, ℕ, suc, ◌+◌, ◌*◌, ◌^◌, ◌≤◌, ◌<◌, T, ltb, ℤ, pos, negsuc, neg_ℤ, ◌+ℤ◌, ◌-ℤ◌, ◌*ℤ◌, nat_abs, ◌≤ℤ◌, ◌<ℤ◌}
use Rattle.std.proofs.Common.{sym, ap, ap₂, ◌∙◌, arith, ltb→lt, to_z-of_z}
use Rattle.std.proofs.Math.Nat as NatL
use Rattle.std.proofs.Math.IntN.{+ℤ_idl}
use Rattle.std.specs.Int.Signed.{mag, nat_abs-le, lt_z, le_z, lt_z_no, non_neg, yes_non_neg}
use Rattle.std.specs.Int.{Width}
use mir.Val.{Fits, SFits, bits, hbits, to_z, of_z}
use Rattle.std.proofs.Math.Facts.{and_yes}
use Rattle.std.proofs.lemmas.Int.{to_z_pos}
use Rattle.integers.specs.Order.{above, below, parts, parts-le}
use Rattle.integers.specs.Sizes.{Within, within-sum, within-product, within-opposite, within-literal}

-- a is `plain`, which has no bits, if the test passes
pub record Reads {A : Type 0} (a : A) : Type 0 where
  pub plain : A
  pub passes : Bool
  pub reads : T passes → a ≡ plain

-- a number that reads so, and a bound on its size
pub record Stands (z : ℤ) : Type 0 where
  pub read : Reads z
  pub bound : ℕ
  pub sized : Within bound read.plain

pub value : {A : Type 0} {a : A} (p : Reads a) → T p.passes → a ≡ p.plain
value p = p.reads

pub without-bits : {A : Type 0} {a r : A} → a ≡ r → (p : Reads a) → T p.passes → p.plain ≡ r
without-bits e p t = sym (p.reads t) ∙ e

-- ---- what reads as itself
abbrev pub as-it-is : {A : Type 0} (a : A) → Reads a
as-it-is a = record { plain = a; passes = true; reads = λ t. refl }

abbrev pub bounded-stands : {B : ℕ} {z : ℤ} → Within B z → Stands z
bounded-stands {B} {z} h = record { read = as-it-is z; bound = B; sized = h }

abbrev pub literal-stands : {n : ℕ} → Stands (pos n)
literal-stands {n} = bounded-stands (within-literal (pos n))

abbrev pub negative-stands : {n : ℕ} → Stands (negsuc n)
negative-stands {n} = bounded-stands (within-literal (negsuc n))

-- ---- operations
abbrev pub through : {A B : Type 0} (f : A → B) {a : A} → Reads a → Reads (f a)
through f p = record { plain = f p.plain; passes = p.passes; reads = λ t. ap f (p.reads t) }

abbrev pub through-both : {A B C : Type 0} (f : A → B → C) {a : A} {b : B} → Reads a → Reads b → Reads (f a b)
through-both f p q = record {
  plain = f p.plain q.plain;
  passes = p.passes && q.passes;
  reads = λ t. let ts = and_yes p.passes q.passes t in ap₂ f (p.reads ts.0) (q.reads ts.1);
}

abbrev pub opposite-stands : {x : ℤ} → Stands x → Stands (neg_ℤ x)
opposite-stands p = record { read = through neg_ℤ p.read; bound = p.bound; sized = within-opposite p.sized }

abbrev pub sum-stands : {x y : ℤ} → Stands x → Stands y → Stands (x +ℤ y)
sum-stands p q = record {
  read = through-both ◌+ℤ◌ p.read q.read;
  bound = p.bound + q.bound;
  sized = within-sum p.sized q.sized;
}

abbrev pub product-stands : {x y : ℤ} → Stands x → Stands y → Stands (x *ℤ y)
product-stands p q = record {
  read = through-both ◌*ℤ◌ p.read q.read;
  bound = p.bound * q.bound;
  sized = within-product p.sized q.sized;
}

-- a number that is known to be another: `search (machine, known-stands e)`, with e : x ≡ y of a call's result x
abbrev pub known-stands : {x y : ℤ} → x ≡ y → Stands y → Stands x
known-stands e p = record {
  read = record { plain = p.read.plain; passes = p.read.passes; reads = λ t. e ∙ p.read.reads t };
  bound = p.bound;
  sized = p.sized;
}

-- `0 - x`, which the machine has for `-x`: listed before the sum
abbrev pub negation-stands : {x : ℤ} → Stands x → Stands (pos 0 -ℤ x)
negation-stands {x} p = known-stands (+ℤ_idl (neg_ℤ x)) (opposite-stands p)

abbrev pub number-reads : {z : ℤ} → Stands z → Reads z
number-reads p = p.read

abbrev pub size-reads : (z : ℤ) → Stands z → Reads (nat_abs z)
size-reads z p = through nat_abs p.read

abbrev pub lt-reads : (x y : ℤ) → Stands x → Stands y → Reads (lt_z x y)
lt-reads x y p q = through-both lt_z p.read q.read

abbrev pub le-reads : (x y : ℤ) → Stands x → Stands y → Reads (le_z x y)
le-reads x y p q = through-both le_z p.read q.read

-- ---- sizes
-- the test of p, and that its bound is below B
abbrev pub below? : {z : ℤ} → Stands z → ℕ → Bool
below? p B = p.read.passes && ltb p.bound B

-- what its number has for its size, it has
pub below_holds : (P : ℤ → Type 0) (B : ℕ) {z : ℤ} (p : Stands z) → T (below? p B)
    → (nat_abs p.read.plain < B → P p.read.plain) → P z
below_holds P B p t f =
    let ts = and_yes p.read.passes (ltb p.bound B) t in
    rw (p.read.reads ts.0) (f (NatL.lt_of_le_of_lt p.sized.size (ltb→lt p.bound B ts.1)))

pub within : {B : ℕ} {z : ℤ} (p : Stands z) → T (below? p (suc B)) → Within B z
within {B} p t = below_holds (Within B) (suc B) p t (λ h. record { size = NatL.le_of_suc-le-suc h })

mag-size : (z : ℤ) → mag z ≤ nat_abs z
mag-size (pos n) = NatL.le_refl n
mag-size (negsuc n) = omega arith

pub fits : {w : Width} {z : ℤ} (p : Stands z) → T (below? p (2 ^ hbits w)) → SFits w z
fits {w} p t = below_holds (SFits w) (2 ^ hbits w) p t (λ h. record { sfits = NatL.lt_of_le_of_lt (mag-size p.read.plain) h })

-- ---- bits
pub read_back : (w : Width) {z : ℤ} (p : Stands z) → T (below? p (2 ^ hbits w)) → to_z w (of_z w z) ≡ p.read.plain
read_back w p t = to_z-of_z (fits p t) ∙ p.read.reads (and_yes p.read.passes (ltb p.bound (2 ^ hbits w)) t).0

abbrev pub back-stands : (w : Width) {z : ℤ} → Stands z → Stands (to_z w (of_z w z))
back-stands w p = record {
  read = record { plain = p.read.plain; passes = below? p (2 ^ hbits w); reads = read_back w p };
  bound = p.bound;
  sized = p.sized;
}

-- a natural, cast to a signed width
pub natural-back : (w : Width) (n B : ℕ) → n ≤ B → T (ltb B (2 ^ hbits w)) → to_z w n ≡ pos n
natural-back w n B h t = to_z_pos w n (NatL.lt_of_le_of_lt h (ltb→lt B (2 ^ hbits w) t))

abbrev pub natural-stands : (w : Width) (n B : ℕ) → n ≤ B → Stands (to_z w n)
natural-stands w n B h = record {
  read = record { plain = pos n; passes = ltb B (2 ^ hbits w); reads = natural-back w n B h };
  bound = B;
  sized = record { size = h };
}

-- what a cast to an unsigned width asks, A and B, holds if the number is not negative
pub record Casts (A B : Type 0) : Type 0 where
  pub number : ℤ
  pub passes : Bool
  pub casts : T passes → pos 0 ≤ℤ number → A × B

pub fits-unsigned : {A B : Type 0} (p : Casts A B) → T p.passes → pos 0 ≤ℤ p.number → A × B
fits-unsigned p = p.casts

pub cast-holds : (v : Width) (z : ℤ) (p : Stands z) → T (below? p (2 ^ bits v)) → pos 0 ≤ℤ p.read.plain
    → T (non_neg z) × Fits v (nat_abs z)
cast-holds v z p t h =
    below_holds (λ x. T (non_neg x) × Fits v (nat_abs x)) (2 ^ bits v) p t (λ k. (yes_non_neg h, record { fits = k }))

abbrev pub unsigned-casts : (v : Width) (z : ℤ) → Stands z → Casts (T (non_neg z)) (Fits v (nat_abs z))
unsigned-casts v z p = record { number = p.read.plain; passes = below? p (2 ^ bits v); casts = cast-holds v z p }

pub ruleset numbers = (back-stands, negation-stands, sum-stands, product-stands, opposite-stands)

pub ruleset leaves = (literal-stands, negative-stands, bounded-stands, natural-stands)

pub ruleset answers = (number-reads, size-reads, lt-reads, le-reads, unsigned-casts)

pub ruleset machine = (numbers, leaves, answers)

-- ---- of which only the type is known: a parameter has `SFits w z` or `Fits v n`, a call's result `mag z < 2 ^ hbits w` (its `.ok`)
pub back : (w : Width) (z : ℤ) → mag z < 2 ^ hbits w → to_z w (of_z w z) ≡ z
back w z h = to_z-of_z (record { sfits = h })

abbrev pub result-stands : (w : Width) (z : ℤ) → mag z < 2 ^ hbits w → Stands (to_z w (of_z w z))
result-stands w z h = known-stands (back w z h) (bounded-stands {B = 2 ^ hbits w} (record { size = nat_abs-le z h }))

abbrev pub parameter-stands : {w : Width} {z : ℤ} → SFits w z → Stands (to_z w (of_z w z))
parameter-stands {w} {z} h = result-stands w z h.sfits

abbrev pub unsigned-stands : (w : Width) {v : Width} {n : ℕ} → Fits v n → Stands (to_z w n)
unsigned-stands w {v} {n} h = natural-stands w n (2 ^ bits v) (NatL.le_of_lt h.fits)

pub ruleset typed = (parameter-stands, result-stands, unsigned-stands)

-- `==` leaves an equation of bits
pub eq-bits : {w : Width} {x y : ℤ} → SFits w x → SFits w y → of_z w x ≡ of_z w y → x ≡ y
eq-bits {w} p q e = sym (to_z-of_z p) ∙ ap (to_z w) e ∙ to_z-of_z q

-- ---- what a signed comparison leaves, as facts of the order
pub lt_yes : (x y : ℤ) → lt_z x y ≡ true → x <ℤ y
lt_yes x y e = record { lt = rw e tt }

pub lt_no : (x y : ℤ) → lt_z x y ≡ false → y ≤ℤ x
lt_no x y e = lt_z_no {a = x} {b = y} (rw e tt)

pub le_yes : (x y : ℤ) → le_z x y ≡ true → x ≤ℤ y
le_yes x y e = record { le = rw e tt }

pub le-no : (x y : ℤ) → le_z x y ≡ false → y <ℤ x
le-no x y e =
    let no : ¬ (above x + below y ≤ above y + below x) = λ k. rw e at (parts-le {x = x} {y = y} k).le in
    omega (arith, parts)

-- and as rules: `omega (arith, parts, tests)`
pub lt-true : (x y : ℤ) → lt_z x y ≡ true → above x + below y < above y + below x
lt-true x y e = let h = lt_yes x y e in omega (arith, parts)

pub lt-false : (x y : ℤ) → lt_z x y ≡ false → above y + below x ≤ above x + below y
lt-false x y e = let h = lt_no x y e in omega (arith, parts)

pub le-true : (x y : ℤ) → le_z x y ≡ true → above x + below y ≤ above y + below x
le-true x y e = let h = le_yes x y e in omega (arith, parts)

pub le-false : (x y : ℤ) → le_z x y ≡ false → above y + below x < above x + below y
le-false x y e = let h = le-no x y e in omega (arith, parts)

pub ruleset tests = (lt-true, lt-false, le-true, le-false)
