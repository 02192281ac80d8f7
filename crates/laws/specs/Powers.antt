-- The powers are 1, 2, 4, .. up to the first that is at least R; how many there are, how far they reach, and what they make of the looks.
use Rattle.std.specs.Prelude.{◌≡◌, refl, ◌⊎◌, Bool, true, false, List, [], ◌∷◌, ℕ, zero, suc, ◌+◌, ◌*◌, ◌-◌, ◌/◌, ◌^◌, ◌≤◌, ◌<◌, leb, max, length}
use Rattle.std.proofs.Common.{sym, ap, ◌∙◌, inl, inr, arith, leb→le, le-leb}
use Rattle.std.proofs.Math.Nat as NatL
use Rattle.std.proofs.Math.Dec.{nleb→lt}
use Rattle.std.proofs.lemmas.Bool.{lt-leb}
use Rattle.std.proofs.lemmas.Nat.{pow_pos}
use Rattle.std.specs.Int.{IsPowerOfTwo}
use Rattle.rules.specs.Walk.{powers_from, powers}
use Rattle.rules.specs.Lean.{last, last_power}
use Rattle.laws.specs.Tests.{Each, In}

-- l, 2l, 4l, .. up to the first that is at least R
abbrev pub UpTo : ℕ → ℕ → List ℕ → Type 0
UpTo R l [] = ⊥
UpTo R l (k ∷ []) = (k ≡ l) × (R ≤ k)
UpTo R l (k ∷ j ∷ ks) = (k ≡ l) × (k < R) × UpTo R (l + l) (j ∷ ks)

-- the first argument of `powers_from` never runs out before that one
powers-from : (fuel l R : ℕ) → 1 ≤ l → R ≤ l + fuel → UpTo R l (powers_from fuel l R)
unfolding powers_from
powers-from zero l R h k = (refl, omega arith)
powers-from (suc fuel) l R h k = go (leb R l) refl (powers_from fuel (l + l) R) (powers-from fuel (l + l) R (omega arith) (omega arith))
  where
    go : (b : Bool) → leb R l ≡ b → (ls : List ℕ) → UpTo R (l + l) ls → UpTo R l (l ∷ (elim b [ true ↦ [] | false ↦ ls ]))
    go true e ls r = (refl, leb→le R l (rw e tt))
    go false e [] r = absurd r
    go false e (j ∷ ks) r = (refl, nleb→lt R l (rw e tt), r)

pub powers-reach : (R : ℕ) → UpTo R 1 (powers R)
unfolding powers
powers-reach R = powers-from R 1 R (omega arith) (omega arith)

-- ---- one by one: l is the last if it is at least R, else those from 2l on follow, and the first argument has not run out
pub powers-last : (fuel l R : ℕ) → R ≤ l → powers_from fuel l R ≡ l ∷ []
unfolding powers_from
powers-last zero l R h = refl
powers-last (suc fuel) l R h = rw (le-leb R l h)

pub powers-more : (fuel l R : ℕ) → l < R → R ≤ l + fuel → (f : ℕ) × (R ≤ l + suc f) × (powers_from fuel l R ≡ l ∷ powers_from f (l + l) R)
unfolding powers_from
powers-more zero l R h k = absurd (omega arith)
powers-more (suc f) l R h k = (f, k, rw (lt-leb R l h))

-- ---- one of the powers is at least M
abbrev pub Reaches : ℕ → List ℕ → Type 0
Reaches M [] = ⊥
Reaches M (l ∷ ls) = (M ≤ l) ⊎ Reaches M ls

pub up-to-reaches : (R l : ℕ) (ls : List ℕ) → UpTo R l ls → Reaches R ls
up-to-reaches R l [] h = absurd h
up-to-reaches R l (k ∷ []) h = inl h.1
up-to-reaches R l (k ∷ j ∷ ks) h = inr (up-to-reaches R (l + l) (j ∷ ks) h.2)

-- l doubled j times
abbrev doubled : ℕ → ℕ → ℕ
doubled zero l = l
doubled (suc j) l = doubled j (l + l)

doubled-more : (j l : ℕ) → l ≤ doubled j l
doubled-more zero l = omega arith
doubled-more (suc j) l = omega (arith, doubled-more j (l + l))

begins : (M R l : ℕ) (ls : List ℕ) → M ≤ l → UpTo R l ls → Reaches M ls
begins M R l [] m h = absurd h
begins M R l (k ∷ []) m h = inl (omega (arith, h.0))
begins M R l (k ∷ j ∷ ks) m h = inl (omega (arith, h.0))

reaches-further : (j R l : ℕ) (ls : List ℕ) → UpTo R l ls → doubled j l < R → Reaches (doubled (suc j) l) ls
reaches-further j R l [] h d = absurd h
reaches-further j R l (k ∷ []) h d = absurd (omega (arith, h.0, h.1, doubled-more j l))
reaches-further zero R l (k ∷ i ∷ ks) h d = inr (begins (l + l) R (l + l) (i ∷ ks) (omega arith) h.2)
reaches-further (suc j) R l (k ∷ i ∷ ks) h d = inr (reaches-further j R (l + l) (i ∷ ks) h.2 d)

pub powers-128 : (R : ℕ) → 64 < R → Reaches 128 (powers R)
powers-128 R h = reaches-further 6 R 1 (powers R) (powers-reach R) h

-- ---- nine powers at most
few : (j R l : ℕ) (ls : List ℕ) → UpTo R l ls → R ≤ doubled j l → length ls ≤ suc j
few j R l [] h d = absurd h
few j R l (k ∷ []) h d = omega arith
few zero R l (k ∷ i ∷ ks) h d = absurd (omega (arith, h.0, h.1))
few (suc j) R l (k ∷ i ∷ ks) h d = omega (arith, few j R (l + l) (i ∷ ks) h.2 d)

pub few-powers : (R : ℕ) → R ≤ 256 → length (powers R) ≤ 9
few-powers R h = few 8 R 1 (powers R) (powers-reach R) h

-- ---- looks: 2 for the start; K for each of r remaining axes and 2K for each level one, n with those of the start; and p pairs in each of d + 1 rounds, l
pub looks-add-up : (K r p d n l : ℕ) → r ≤ 3 → n + r * K ≤ 2 + 6 * K → l ≤ suc d * (p * K) → n + l ≤ 2 + K * (6 - r + p * suc d)
looks-add-up K r p d n l three h k =
    omega (arith, NatL.mul_comm K (6 - r + p * suc d), NatL.add-mul (6 - r) (p * suc d) K, rest, ap (λ (z : ℕ). z * K) (NatL.mul_comm p (suc d)), NatL.mul_assoc (suc d) p K)
  where
    rest : (6 - r) * K + r * K ≡ 6 * K
    rest = sym (NatL.add-mul (6 - r) r K) ∙ ap (λ (z : ℕ). z * K) (omega arith)

-- with r remaining axes r(r - 1) pairs take part; three take the most
pub three-most : (r R M : ℕ) → 1 ≤ r → r ≤ 3 → R ≤ M → 3 ≤ M → 6 - r + r * (r - 1) * suc (R - r) ≤ 6 * M - 9
three-most zero R M h k i j = absurd (omega arith)
three-most (suc zero) R M h k i j = omega arith
three-most (suc (suc zero)) R M h k i j = omega arith
three-most (suc (suc (suc zero))) R M h k i j = omega arith
three-most (suc (suc (suc (suc r)))) R M h k i j = absurd (omega arith)

pub few-looks : (R M : ℕ) → R ≤ 256 → M ≤ 256 → 2 + length (powers R) * (6 * M - 9) ≤ 13745
few-looks R M h k = let l : 6 * M - 9 ≤ 1527 = omega arith in omega (arith, NatL.mul-le-mul (few-powers R h) l)

-- ---- the last power is one of them, at least R, and none is beyond it
last-in : (R l : ℕ) (ls : List ℕ) → UpTo R l ls → In (last ls) ls
unfolding last
last-in R l [] h = absurd h
last-in R l (k ∷ []) h = inl refl
last-in R l (k ∷ j ∷ ks) h = inr (last-in R (l + l) (j ∷ ks) h.2)

last-high : (R l : ℕ) (ls : List ℕ) → UpTo R l ls → R ≤ last ls
unfolding last
last-high R l [] h = absurd h
last-high R l (k ∷ []) h = h.1
last-high R l (k ∷ j ∷ ks) h = last-high R (l + l) (j ∷ ks) h.2

up-to-last : (R l : ℕ) (ls : List ℕ) → UpTo R l ls → Each (λ k. k ≤ last ls) ls
unfolding last
up-to-last R l [] h = absurd h
up-to-last R l (k ∷ []) h = (NatL.le_refl k, tt)
up-to-last R l (k ∷ j ∷ ks) h = (omega (arith, h.1, last-high R (l + l) (j ∷ ks) h.2), up-to-last R (l + l) (j ∷ ks) h.2)

pub last-power : (R : ℕ) → In (last_power R) (powers R)
unfolding last_power
last-power R = last-in R 1 (powers R) (powers-reach R)

pub last-power-high : (R : ℕ) → R ≤ last_power R
unfolding last_power
last-power-high R = last-high R 1 (powers R) (powers-reach R)

pub powers-to-last : (R : ℕ) → Each (λ l. l ≤ last_power R) (powers R)
unfolding last_power
powers-to-last R = up-to-last R 1 (powers R) (powers-reach R)

-- ---- they are the powers of two up to the least that is at least R, whose exponent counts them
doubles : (l k : ℕ) → l * 2 ^ suc k ≡ (l + l) * 2 ^ k
doubles l k = omega (arith, ap (λ (n : ℕ). l * n) (NatL.two-pow-succ k))

to-power : (R l k : ℕ) (ls : List ℕ) → UpTo R l ls → R ≤ l * 2 ^ k → l * 2 ^ k / 2 < max l R → (length ls ≡ suc k) × (last ls ≡ l * 2 ^ k)
unfolding last
to-power R l k [] h a b = absurd h
to-power R l zero (i ∷ []) h a b = (refl, omega (arith, h.0))
to-power R l (suc k) (i ∷ []) h a b = absurd (omega (arith, h.0, h.1, a, b, doubles l k, NatL.mul-le-mul (NatL.le_refl l) (pow_pos k)))
to-power R l zero (i ∷ j ∷ ks) h a b = absurd (omega (arith, h.0, h.1, a))
to-power R l (suc k) (i ∷ j ∷ ks) h a b =
    let r = to-power R (l + l) k (j ∷ ks) h.2 (omega (arith, a, doubles l k)) (omega (arith, b, doubles l k)) in
    (omega (arith, r.0), r.1 ∙ sym (doubles l k))

exponent : (i k : ℕ) → 2 ^ i ≤ 2 ^ k → 2 ^ k < 2 * 2 ^ i → i ≡ k
exponent zero zero a b = refl
exponent zero (suc k) a b = absurd (omega (arith, b, pow_pos k, NatL.two-pow-succ k))
exponent (suc i) zero a b = absurd (omega (arith, a, pow_pos i, NatL.two-pow-succ i))
exponent (suc i) (suc k) a b = ap suc (exponent i k (omega (arith, a, NatL.two-pow-succ i, NatL.two-pow-succ k)) (omega (arith, b, NatL.two-pow-succ i, NatL.two-pow-succ k)))

module _ {R p : ℕ} (power : IsPowerOfTwo p) (high : R ≤ p) (low : p / 2 < max 1 R) where
  powers-to : (length (powers R) ≡ suc power.0) × (last (powers R) ≡ 1 * 2 ^ power.0)
  powers-to = to-power R 1 power.0 (powers R) (powers-reach R) (omega (arith, high, power.1)) (omega (arith, low, power.1))

  pub last-power-is : p ≡ last_power R
  unfolding last_power
  last-power-is = omega (arith, power.1, powers-to.1)

  pub powers-counted : {i : ℕ} → 2 ^ i ≤ p → p < 2 * 2 ^ i → suc i ≡ length (powers R)
  powers-counted {i} a b = omega (arith, exponent i power.0 (omega (arith, a, power.1)) (omega (arith, b, power.1)), powers-to.0)
