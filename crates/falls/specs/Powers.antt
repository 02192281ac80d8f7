-- The falls question over any look, power by power: what each outcome of the look at l makes of the rest.
use Rattle.std.specs.Prelude.{◌≡◌, Bool, true, false, List, [], ◌∷◌, leb, ℤ, pos, ◌+ℤ◌, ◌-ℤ◌}
use Rattle.std.proofs.Math.Path.{refl, sym, ap}
use Rattle.std.proofs.Common.{subst, ◌∙◌, arith, le-leb}
use Prim.Native.Nat.{ℕ, zero, suc, ◌+◌, ◌≤◌, ◌<◌}
use Rattle.std.proofs.Math.Dec.{lit<, lit≤}
use Rattle.std.proofs.lemmas.Bool.{lt-leb}
use Rattle.rules.specs.declared.Vector.{Vector}
use Rattle.rules.specs.declared.Look.{Look}
use Rattle.rules.specs.declared.Look.TheVariants.{Filled, Empty, Outside}
use Rattle.integers.specs.Reify.{byring, sides}
use Rattle.rules.specs.Vectors.{◌⊕◌, ◌⊖◌, scale, dot}
use Rattle.laws.specs.Bounds.{Bounded, bounded-is, bounded-wider, bounded-sum, bounded-difference}
use Rattle.laws.specs.Parts.{part, part-sum, part-difference, part-scale, vector-by-parts, dot-sum, dot-difference}
use Rattle.rules.specs.Walk.{powers_from, powers, falls_at, Probe}
use Rattle.laws.specs.Tally.{Tally, yes, no, Gives, then-yes, then-no, at_once, filled-there, empty-there, outside-there}
use Rattle.falls.specs.Falls.{Fallen, Falling}
use Rattle.falls.specs.declared.Falls.{Falls}
use Rattle.falls.specs.declared.Falls.TheVariants.{Fell, Kept, Stopped}

module _ (look : Vector → Look) (q u : Vector) (span l n : ℕ) where
  -- at the power l
  there : Vector
  there = q ⊕ scale (pos l) u

  -- the powers behind l
  behind : ℕ → List ℕ
  behind zero = []
  behind (suc fuel) = elim (leb span l) [ true ↦ [] | false ↦ powers_from fuel (l + l) span ]

  none-behind : (fuel : ℕ) → span ≤ l → behind fuel ≡ []
  unfolding behind
  none-behind zero h = refl
  none-behind (suc fuel) h = rw (le-leb span l h, behind)

  more-behind : (fuel : ℕ) → l < span → behind (suc fuel) ≡ powers_from fuel (l + l) span
  unfolding behind
  more-behind fuel h = rw (lt-leb span l h, behind)

  -- the question from l on is one look and then the powers behind
  from : (fuel : ℕ) {r : Tally Vector Bool} → Gives n (falls_at look q u (l ∷ behind fuel)) r → Gives n (falls_at look q u (powers_from fuel l span)) r
  unfolding powers_from behind
  from zero h = h
  from (suc fuel) h = h

  filled_at : (fuel : ℕ) → look there ≡ Filled → Gives n (falls_at look q u (powers_from fuel l span)) (yes true (n + 1))
  unfolding falls_at there
  filled_at fuel e = from fuel (then-yes _ (filled-there look n there e) at_once)

  outside-at : (fuel : ℕ) → look there ≡ Outside → Gives n (falls_at look q u (powers_from fuel l span)) (no there n)
  unfolding falls_at there
  outside-at fuel e = from fuel (then-no _ (outside-there look n there e))

  empty-at : (fuel : ℕ) {r : Tally Vector Bool} → look there ≡ Empty → Gives (n + 1) (falls_at look q u (behind fuel)) r → Gives n (falls_at look q u (powers_from fuel l span)) r
  unfolding falls_at there
  empty-at fuel e h = from fuel (then-yes _ (empty-there look n there e) h)

  last-at : (fuel : ℕ) → look there ≡ Empty → span ≤ l → Gives n (falls_at look q u (powers_from fuel l span)) (yes false (n + 1))
  unfolding falls_at
  last-at fuel e h = empty-at fuel e (rw (none-behind fuel h) at_once)

  next-at : (fuel : ℕ) {r : Tally Vector Bool} → look there ≡ Empty → l < span → Gives (n + 1) (falls_at look q u (powers_from fuel (l + l) span)) r → Gives n (falls_at look q u (powers_from (suc fuel) l span)) r
  next-at fuel e h g = empty-at (suc fuel) e (rw (more-behind fuel h) g)

-- ---- the loop: from what holds before a look and what the look was, to what holds after it

-- twice as far from q
twice : (q u : Vector) (l : ℤ) → q ⊕ scale l u ⊕ (q ⊕ scale l u ⊖ q) ≡ q ⊕ scale (l +ℤ l) u
twice q u l = vector-by-parts (λ k. simp (part-sum, part-difference, part-scale) (byring (part k q ∷ part k u ∷ l ∷ []) (search sides depth 40 fits 5000) tt))

once : (q u : Vector) → q ⊕ u ≡ q ⊕ scale (pos 1) u
once q u = vector-by-parts (λ k. simp (part-sum, part-scale) (byring (part k q ∷ part k u ∷ []) (search sides depth 40 fits 5000) tt))

-- from q and back
back : (q u : Vector) {at : Vector} → at ≡ q ⊕ u → at ⊖ q ≡ u
back q u e = ap (λ (v : Vector). v ⊖ q) e ∙ vector-by-parts (λ k. simp (part-sum, part-difference) (byring (part k q ∷ part k u ∷ []) (search sides depth 40 fits 5000) tt))

-- the first point tells the vector that was asked
pub fallen-back : {c : Probe} {u first : Vector} {looks : ℕ} {f : Falls} → first ≡ c.apex ⊕ u → Fallen c (first ⊖ c.apex) looks f → Fallen c u looks f
fallen-back {c} {u} {looks = looks} {f} e h = subst (λ (v : Vector). Fallen c v looks f) (back c.apex u e) h

module _ {look : Vector → Look} {r q u : Vector} {span looks : ℕ} where
  pub falls-begins : {at : Vector} {here rise rank : ℤ} → Bounded 1023 q → Bounded 2046 u → here ≡ dot r q → rise ≡ dot r u → at ≡ q ⊕ u → rank ≡ here +ℤ rise → Falling look r q u span looks 1 looks at rank
  unfolding powers
  falls-begins {at} b d h i a e = record {
    along = a ∙ once q u;
    ranked = e ∙ (λ j. h j +ℤ i j) ∙ sym (dot-sum r q u) ∙ ap (dot r) (sym a);
    sized = bounded-is a (bounded-sum b d);
    one = lit≤ tt;
    low = lit< tt;
    few = omega arith;
    fuel = span;
    enough = omega arith;
    rest = λ g. g;
  }

  -- the same of the first point's difference from q
  pub falls-begins-back : {at : Vector} {here rise rank : ℤ} → Bounded 1023 q → Bounded 2046 u → here ≡ dot r q → rise ≡ dot r u → at ≡ q ⊕ u → rank ≡ here +ℤ rise → Falling look r q (at ⊖ q) span looks 1 looks at rank
  falls-begins-back {at} {rank = rank} b d h i a e = subst (λ (v : Vector). Falling look r q v span looks 1 looks at rank) (sym (back q u a)) (falls-begins b d h i a e)

  module _ {l n : ℕ} {at : Vector} {rank : ℤ} {k : Look} (h : Falling look r q u span looks l n at rank) (b : k ≡ look at) where
    look_is : {j : Look} → k ≡ j → look (there look q u span l n) ≡ j
    unfolding there
    look_is e = sym (ap look h.along) ∙ sym b ∙ e

    pub falls-stopped : {s : Vector} → k ≡ Outside → Fallen (record { look = look; apex = q; signs = s; powers = powers span }) u looks (Stopped (record { place = at; looks = n }))
    unfolding there
    falls-stopped e = record { gives = rw h.along (h.rest (outside-at look q u span l n h.fuel (look_is e))); few = omega (arith, h.few, h.low) }

    pub falls-fell : {s : Vector} → k ≡ Filled → Fallen (record { look = look; apex = q; signs = s; powers = powers span }) u looks (Fell (n + 1))
    falls-fell e = record { gives = h.rest (filled_at look q u span l n h.fuel (look_is e)); few = omega (arith, h.few, h.low) }

    pub falls-kept : {s : Vector} → k ≡ Empty → span ≤ l → Fallen (record { look = look; apex = q; signs = s; powers = powers span }) u looks (Kept (n + 1))
    falls-kept e o = record { gives = h.rest (last-at look q u span l n h.fuel (look_is e) o); few = omega (arith, h.few, h.low) }

    -- fuel is left, since the span is not met
    more-fuel : (fuel : ℕ) → l < span → span ≤ l + fuel → (f : ℕ) × (fuel ≡ suc f)
    more-fuel zero o t = absurd (omega arith)
    more-fuel (suc f) o t = (f, refl)

    pub falls-on : {gone far : Vector} {here next : ℤ} → Bounded 1023 q → Bounded 1023 at → here ≡ dot r q → span ≤ 256 → k ≡ Empty → l < span → gone ≡ at ⊖ q → far ≡ at ⊕ gone → next ≡ rank +ℤ (rank -ℤ here)
        → Falling look r q u span looks (l + l) (n + 1) far next
    falls-on {gone} {far} c i y t e o d a x =
        let f = more-fuel h.fuel o h.enough in
        let w = a ∙ ap (λ (v : Vector). at ⊕ v) d in
        record {
          along = w ∙ (λ j. h.along j ⊕ (h.along j ⊖ q)) ∙ twice q u (pos l);
          ranked = x ∙ (λ j. h.ranked j +ℤ (h.ranked j -ℤ y j)) ∙ sym (dot-sum r at (at ⊖ q) ∙ ap (λ (z : ℤ). dot r at +ℤ z) (dot-difference r at q)) ∙ ap (dot r) (sym w);
          sized = bounded-is w (bounded-wider (bounded-sum i (bounded-difference i c)) (lit≤ tt));
          one = omega (arith, h.one);
          low = omega arith;
          few = omega (arith, h.few, h.one);
          fuel = f.0;
          enough = omega (arith, h.one, h.enough, f.1);
          rest = λ g. h.rest (rw f.1 (next-at look q u span l n f.0 (look_is e) o g));
        }
