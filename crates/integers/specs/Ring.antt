-- Identities of commutative rings over ℤ, by reflection. A `Term ρ x` is an expression in the atoms ρ whose value is x, and
-- `vanishes a tt : x ≡ pos 0` where its normal form is 0, which computes.
-- A polynomial is a list of terms with rising keys. A monomial's key is one native number, its exponents in base 256: a product of
-- monomials is a sum of keys, a comparison one native step. So no exponent may pass 255: `vanishes?` tests the degree, and each
-- operation is shown to keep both the value and the degree (`Means`).
use Rattle.std.specs.Prelude.{◌≡◌, List, [], ◌∷◌, Bool, true, false, ◌&&◌, T, ltb, ℤ, pos, negsuc, neg_ℤ, ◌+ℤ◌, ◌*ℤ◌}
use Rattle.std.proofs.Math.Path.{refl, ap}
use Rattle.std.proofs.Common.{sym, ap₂, ◌∙◌, arith, ltb→lt, eqb→eq}
use Prim.Native.Nat.{ℕ, zero, suc, ◌+◌, ◌*◌, ◌/◌, ◌%◌, ◌<◌, ◌≤◌, max, compare, Ordering}
use Rattle.std.proofs.Math.Nat as NatL
use Rattle.std.proofs.Math.Facts.{and_yes}
use Rattle.std.proofs.Math.Dec.{compare_is_eq}
use Rattle.std.proofs.Math.IntN.{one, pow, +ℤ_idl, +ℤ_idr, +ℤ_assoc, zero-*ℤ, *ℤ-zero, neg_ℤ-+ℤ}
use Rattle.integers.specs.Laws.{sums, products, +ℤ-left-comm, *ℤ-distr, *ℤ-distl, *ℤ-assoc, *ℤ-idl, *ℤ-idr, negℤ-*ℤ}

-- a place of x in the list of atoms
pub data Place : List ℤ → ℤ → Type 0 where
  here : {x : ℤ} {ρ : List ℤ} → Place (x ∷ ρ) x
  there : {x y : ℤ} {ρ : List ℤ} → Place ρ x → Place (y ∷ ρ) x

-- a difference is a sum with an opposite
pub data Term (ρ : List ℤ) : ℤ → Type 0 where
  atom : {x : ℤ} → Place ρ x → Term ρ x
  literal : {n : ℕ} → Term ρ (pos n)
  negative : {n : ℕ} → Term ρ (negsuc n)
  sum : {x y : ℤ} → Term ρ x → Term ρ y → Term ρ (x +ℤ y)
  product : {x y : ℤ} → Term ρ x → Term ρ y → Term ρ (x *ℤ y)
  opposite : {x : ℤ} → Term ρ x → Term ρ (neg_ℤ x)

-- ---- polynomials
pub data Poly : Type 0 where
  nil : Poly
  term : ℕ → ℤ → Poly → Poly

abbrev pub put : ℕ → ℤ → Poly → Poly
put k (pos zero) p = p
put k (pos (suc n)) p = term k (pos (suc n)) p
put k (negsuc n) p = term k (negsuc n) p

-- one turn of `insert`, at the term l y of a list; `rest` is for a key that goes further in
abbrev pub turn : Ordering → ℕ → ℤ → (Poly → Poly) → ℕ → ℤ → Poly → Poly → Poly
turn Ordering.lt k x f l y q rest = term k x (f (term l y q))
turn Ordering.eq k x f l y q rest = put k (x +ℤ y) (f q)
turn Ordering.gt k x f l y q rest = term l y rest

-- the term k x before p, put in its place in a list; `f` merges p into what comes after it
abbrev pub insert : ℕ → ℤ → Poly → (Poly → Poly) → Poly → Poly
insert k x p f nil = term k x p
insert k x p f (term l y q) = turn (compare k l) k x f l y q (insert k x p f q)

abbrev pub merge : Poly → Poly → Poly
merge nil q = q
merge (term k x p) q = insert k x p (merge p) q

abbrev pub scale : ℕ → ℤ → Poly → Poly
scale l y nil = nil
scale l y (term k x p) = term (l + k) (y *ℤ x) (scale l y p)

abbrev pub times : Poly → Poly → Poly
times nil q = nil
times (term k x p) q = merge (scale k x q) (times p q)

abbrev pub minus : Poly → Poly
minus nil = nil
minus (term k x p) = term k (neg_ℤ x) (minus p)

-- with one atom more in front
abbrev pub shift : Poly → Poly
shift nil = nil
shift (term k x p) = term (256 * k) x (shift p)

abbrev pub at_place : {ρ : List ℤ} {x : ℤ} → Place ρ x → Poly
at_place here = term 1 (pos 1) nil
at_place (there p) = shift (at_place p)

abbrev pub normal : {ρ : List ℤ} {x : ℤ} → Term ρ x → Poly
normal (atom p) = at_place p
normal (literal {n}) = put 0 (pos n) nil
normal (negative {n}) = put 0 (negsuc n) nil
normal (sum a b) = merge (normal a) (normal b)
normal (product a b) = times (normal a) (normal b)
normal (opposite a) = minus (normal a)

abbrev pub degree : {ρ : List ℤ} {x : ℤ} → Term ρ x → ℕ
degree (atom p) = 1
degree literal = 0
degree negative = 0
degree (sum a b) = max (degree a) (degree b)
degree (product a b) = degree a + degree b
degree (opposite a) = degree a

abbrev pub none? : Poly → Bool
none? nil = true
none? (term k x p) = false

abbrev pub vanishes? : {ρ : List ℤ} {x : ℤ} → Term ρ x → Bool
vanishes? a = ltb (degree a) 256 && none? (normal a)

-- ---- what a polynomial means
unfoldable pub monomial : List ℤ → ℕ → ℤ
monomial [] k = pos 1
monomial (x ∷ ρ) k = pow x (k % 256) *ℤ monomial ρ (k / 256)

unfoldable pub total : List ℤ → Poly → ℤ
total ρ nil = pos 0
total ρ (term k x p) = x *ℤ monomial ρ k +ℤ total ρ p

-- the sum of a key's exponents
unfoldable exponents : List ℤ → ℕ → ℕ
exponents [] k = 0
exponents (x ∷ ρ) k = k % 256 + exponents ρ (k / 256)

-- no term's degree passes d
abbrev Low : List ℤ → ℕ → Poly → Type 0
Low ρ d nil = Unit {0}
Low ρ d (term k x p) = (exponents ρ k ≤ d) × Low ρ d p

-- p is z, and its degree is at most d
record Means (ρ : List ℤ) (d : ℕ) (p : Poly) (z : ℤ) : Type 0 where
  value : total ρ p ≡ z
  low : Low ρ d p

-- ---- monomials: digits that do not carry
pow-add : (x : ℤ) (a b : ℕ) → pow x (a + b) ≡ pow x a *ℤ pow x b
unfolding pow one
pow-add x a zero = simp (NatL.add-zero, *ℤ-idr)
pow-add x a (suc b) = simp (NatL.add-suc, pow-add x a b, *ℤ-assoc)

module _ (a b : ℕ) (h : a % 256 + b % 256 < 256) where
  last-digit : (a + b) % 256 ≡ a % 256 + b % 256
  last-digit = omega arith

  other-digits : (a + b) / 256 ≡ a / 256 + b / 256
  other-digits = omega arith

exponents-add : (ρ : List ℤ) (a b : ℕ) → exponents ρ a + exponents ρ b < 256 → exponents ρ (a + b) ≡ exponents ρ a + exponents ρ b
unfolding exponents
exponents-add [] a b h = refl
exponents-add (x ∷ ρ) a b h =
    let low : a % 256 + b % 256 < 256 = omega arith in
    omega (arith, last-digit a b low, ap (exponents ρ) (other-digits a b low), exponents-add ρ (a / 256) (b / 256) (omega arith))

monomial-add : (ρ : List ℤ) (a b : ℕ) → exponents ρ a + exponents ρ b < 256 → monomial ρ (a + b) ≡ monomial ρ a *ℤ monomial ρ b
unfolding exponents monomial
monomial-add [] a b h = refl
monomial-add (x ∷ ρ) a b h =
    let low : a % 256 + b % 256 < 256 = omega arith in
    let rest = monomial-add ρ (a / 256) (b / 256) (omega arith) in
    simp (last-digit a b low, other-digits a b low, pow-add, rest) (simp products)

exponents-one : (ρ : List ℤ) → exponents ρ 0 ≡ 0
unfolding exponents
exponents-one [] = refl
exponents-one (x ∷ ρ) = omega (arith, exponents-one ρ)

monomial-one : (ρ : List ℤ) → monomial ρ 0 ≡ pos 1
unfolding monomial pow one
monomial-one [] = refl
monomial-one (x ∷ ρ) = *ℤ-idl (monomial ρ 0) ∙ monomial-one ρ

monomial-atom : (x : ℤ) (ρ : List ℤ) → monomial (x ∷ ρ) 1 ≡ x
unfolding monomial pow one
monomial-atom x ρ = ap₂ ◌*ℤ◌ (*ℤ-idl x) (monomial-one ρ) ∙ *ℤ-idr x

-- ---- one atom more
module _ (k : ℕ) where
  no_digit : 256 * k % 256 ≡ 0
  no_digit = omega arith

  rest-digits : 256 * k / 256 ≡ k
  rest-digits = omega arith

module _ (y : ℤ) (ρ : List ℤ) where
  monomial-shift : (k : ℕ) → monomial (y ∷ ρ) (256 * k) ≡ monomial ρ k
  unfolding monomial pow one
  monomial-shift k = simp (no_digit, rest-digits) (*ℤ-idl (monomial ρ k))

  total-shift : (p : Poly) → total (y ∷ ρ) (shift p) ≡ total ρ p
  unfolding total
  total-shift nil = refl
  total-shift (term k x p) = simp (monomial-shift, total-shift p)

  low-shift : (d : ℕ) (p : Poly) → Low ρ d p → Low (y ∷ ρ) d (shift p)
  unfolding exponents
  low-shift d nil h = tt
  low-shift d (term k x p) h = (simp (no_digit, rest-digits) (omega (arith, h.0)), low-shift d p h.1)

-- ---- the operations
same_key : (x y k p q : ℤ) → (x +ℤ y) *ℤ k +ℤ (p +ℤ q) ≡ (x *ℤ k +ℤ p) +ℤ (y *ℤ k +ℤ q)
same_key x y k p q = simp *ℤ-distr (simp sums)

scaled-key : (x y k l q : ℤ) {m r : ℤ} → m ≡ l *ℤ k → r ≡ (y *ℤ l) *ℤ q → (y *ℤ x) *ℤ m +ℤ r ≡ (y *ℤ l) *ℤ (x *ℤ k +ℤ q)
scaled-key x y k l q e h = simp (e, h, *ℤ-distl) (simp products)

module _ (ρ : List ℤ) where
  put-means : (d k : ℕ) (x : ℤ) (p : Poly) (z : ℤ) → exponents ρ k ≤ d → Means ρ d p z → Means ρ d (put k x p) (x *ℤ monomial ρ k +ℤ z)
  unfolding total
  put-means d k (pos zero) p z h m = record { value = simp (zero-*ℤ, +ℤ_idl) m.value; low = m.low }
  put-means d k (pos (suc n)) p z h m = record { value = rw m.value; low = (h, m.low) }
  put-means d k (negsuc n) p z h m = record { value = rw m.value; low = (h, m.low) }

  -- the term k x stands before p, and f merges p into a list
  module _ (d k : ℕ) (x : ℤ) (p : Poly) (f : Poly → Poly) (h : exponents ρ k ≤ d) (hp : Low ρ d p)
      (hf : (q : Poly) → Low ρ d q → Means ρ d (f q) (total ρ p +ℤ total ρ q)) where
    insert-means : (q : Poly) → Low ρ d q → Means ρ d (insert k x p f q) (total ρ (term k x p) +ℤ total ρ q)
    unfolding total
    insert-means nil b = record { value = simp +ℤ_idr; low = (h, hp) }
    insert-means (term l y q) b = go (compare k l) (eqb→eq k l) (insert-means q b.1)
      where
        go : (o : Ordering) → (T (compare_is_eq o) → k ≡ l) → Means ρ d (insert k x p f q) (total ρ (term k x p) +ℤ total ρ q)
            → Means ρ d (turn o k x f l y q (insert k x p f q)) (total ρ (term k x p) +ℤ total ρ (term l y q))
        go Ordering.lt e m = let r = hf (term l y q) b in record { value = simp (r.value, +ℤ_assoc); low = (h, r.low) }
        go Ordering.eq e m =
            let r = put-means d k (x +ℤ y) (f q) (total ρ p +ℤ total ρ q) h (hf q b.1) in
            record {
              value =
                  r.value
                  ∙ same_key x y (monomial ρ k) (total ρ p) (total ρ q)
                  ∙ ap (λ (j : ℕ). total ρ (term k x p) +ℤ total ρ (term j y q)) (e tt);
              low = r.low;
            }
        go Ordering.gt e m = record {
          value = rw m.value (+ℤ-left-comm (y *ℤ monomial ρ l) (total ρ (term k x p)) (total ρ q));
          low = (b.0, m.low);
        }

  merge-means : (d : ℕ) (p q : Poly) → Low ρ d p → Low ρ d q → Means ρ d (merge p q) (total ρ p +ℤ total ρ q)
  unfolding total
  merge-means d nil q a b = record { value = simp +ℤ_idl; low = b }
  merge-means d (term k x p) q a b = insert-means d k x p (merge p) a.0 a.1 (λ r. merge-means d p r a.1) q b

  minus-means : (d : ℕ) (p : Poly) → Low ρ d p → Means ρ d (minus p) (neg_ℤ (total ρ p))
  unfolding total
  minus-means d nil b = record { value = refl; low = tt }
  minus-means d (term k x p) b =
      let m = minus-means d p b.1 in
      record { value = simp (m.value, negℤ-*ℤ, neg_ℤ-+ℤ); low = (b.0, m.low) }

  module _ (a b d : ℕ) (fits : a + b ≤ d) (small : d < 256) where
    scale-means : (l : ℕ) (y : ℤ) (q : Poly) → exponents ρ l ≤ a → Low ρ b q → Means ρ d (scale l y q) ((y *ℤ monomial ρ l) *ℤ total ρ q)
    unfolding total
    scale-means l y nil h hq = record { value = simp *ℤ-zero; low = tt }
    scale-means l y (term k x q) h hq =
        let m = scale-means l y q h hq.1 in
        let no-carry : exponents ρ l + exponents ρ k < 256 = omega (arith, hq.0) in
        record {
          value = scaled-key x y (monomial ρ k) (monomial ρ l) (total ρ q) (monomial-add ρ l k no-carry) m.value;
          low = (omega (arith, hq.0, exponents-add ρ l k no-carry), m.low);
        }

    times-means : (p q : Poly) → Low ρ a p → Low ρ b q → Means ρ d (times p q) (total ρ p *ℤ total ρ q)
    unfolding total
    times-means nil q hp hq = record { value = simp zero-*ℤ; low = tt }
    times-means (term k x p) q hp hq =
        let s = scale-means k x q hp.0 hq in let t = times-means p q hp.1 hq in
        let m = merge-means d (scale k x q) (times p q) s.low t.low in
        record { value = simp (m.value, s.value, t.value, *ℤ-distr); low = m.low }

at-place-means : {ρ : List ℤ} {x : ℤ} (p : Place ρ x) (d : ℕ) → 1 ≤ d → Means ρ d (at_place p) x
unfolding total exponents
at-place-means (here {x} {ρ}) d h = record { value = simp (monomial-atom, *ℤ-idl, +ℤ_idr); low = (omega (arith, exponents-one ρ), tt) }
at-place-means (there {y} {ρ} p) d h =
    let m = at-place-means p d h in
    record { value = total-shift y ρ (at_place p) ∙ m.value; low = low-shift y ρ d (at_place p) m.low }

literal-means : (ρ : List ℤ) (z : ℤ) (d : ℕ) → Means ρ d (put 0 z nil) z
unfolding total
literal-means ρ z d =
    let m = put-means ρ d 0 z nil (pos 0) (omega (arith, exponents-one ρ)) (record { value = refl; low = tt }) in
    record { value = m.value ∙ simp (monomial-one, *ℤ-idr, +ℤ_idr); low = m.low }

normal-means : {ρ : List ℤ} {x : ℤ} (e : Term ρ x) (d : ℕ) → degree e ≤ d → d < 256 → Means ρ d (normal e) x
normal-means (atom p) d h s = at-place-means p d h
normal-means {ρ} (literal {n}) d h s = literal-means ρ (pos n) d
normal-means {ρ} (negative {n}) d h s = literal-means ρ (negsuc n) d
normal-means {ρ} (sum a b) d h s =
    let l = normal-means a d (omega arith) s in let r = normal-means b d (omega arith) s in
    let m = merge-means ρ d (normal a) (normal b) l.low r.low in
    record { value = simp (m.value, l.value, r.value); low = m.low }
normal-means {ρ} (product a b) d h s =
    let l = normal-means a (degree a) (omega arith) (omega arith) in let r = normal-means b (degree b) (omega arith) (omega arith) in
    let m = times-means ρ (degree a) (degree b) d h s (normal a) (normal b) l.low r.low in
    record { value = simp (m.value, l.value, r.value); low = m.low }
normal-means {ρ} (opposite a) d h s =
    let l = normal-means a d h s in let m = minus-means ρ d (normal a) l.low in
    record { value = simp (m.value, l.value); low = m.low }

none-total : (ρ : List ℤ) (p : Poly) → T (none? p) → total ρ p ≡ pos 0
unfolding total
none-total ρ nil t = refl
none-total ρ (term k x p) t = absurd t

pub vanishes : {ρ : List ℤ} {x : ℤ} (e : Term ρ x) → T (vanishes? e) → x ≡ pos 0
vanishes {ρ} e t =
    let c = and_yes (ltb (degree e) 256) (none? (normal e)) t in
    sym (normal-means e (degree e) (NatL.le_refl (degree e)) (ltb→lt (degree e) 256 c.0)).value ∙ none-total ρ (normal e) c.1
