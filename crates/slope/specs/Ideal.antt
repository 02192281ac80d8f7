-- The ideal walk: the walk of a vector n alone, with no solid, where a pair that takes part falls exactly if n·(m_l - m_k) < 0. Each height n·m_k stays at least 1
-- and a step lowers their sum by at least 1, so from a sum of 3 + r there are at most r steps; it ends where no pair falls.
use Rattle.std.specs.Prelude.{◌≡◌, Bool, false, length, ℤ, ◌+ℤ◌, ◌-ℤ◌, ◌≤ℤ◌, ◌<ℤ◌}
use Rattle.std.proofs.Math.Path.{refl}
use Rattle.std.proofs.Common.{◌∙◌}
use mathlib.Core.List.{List, [], ◌∷◌}
use Prim.Native.Nat.{ℕ, zero, suc, ◌+◌, ◌-◌, ◌≤◌}
use native.Mathlib.Omega.{arith}
use Rattle.std.proofs.Math.Dec.{T}
use Rattle.std.proofs.Math.IntN.{pos}
use Rattle.std.specs.Int.Signed.{lt_z, lt_z_yes, lt_z_no}
use Rattle.integers.specs.Reify.{byring, sides}
use Rattle.integers.specs.Order.{parts, linear, atom, goal, fact}
use Rattle.rules.specs.declared.Vector.{Vector}
use Rattle.rules.specs.declared.Levels.{Levels}
use Rattle.rules.specs.declared.Triangle.{Triangle}
use Rattle.rules.specs.declared.Pair.{Pair}
use Rattle.rules.specs.Answers.{Choice}
use Rattle.std.specs.Prelude.{None as Nothing, Some as Chosen}
use Rattle.rules.specs.Vectors.{◌⊖◌, dot, lay, size}
use Rattle.rules.specs.declared.Axis.{Axis}
use Rattle.rules.specs.declared.Axis.TheVariants.{Axis0 as axis0, Axis1 as axis1, Axis2 as axis2}
use Rattle.rules.specs.Walk.{vector_of, with_vector, pairs, from, first, second, way, step, units, choice, only, remaining, takes_part}
use Rattle.rules.specs.Lean.{levels_of}
use Rattle.laws.specs.Only.{each-both-of, only-holds, only-each, only_none, each_member, taking-in}
use Rattle.laws.specs.Parts.{dot-difference}
use Rattle.laws.specs.Triples.{All, all_first, all-second, all-with, det_of, step-det}
use Rattle.laws.specs.Flat.{Flat, raised, step-flat}
use Rattle.laws.specs.Choosing.{Chose, choice-is}
use Rattle.laws.proofs.Choosing.{choice-exists}

module _ (n : Vector) (v : Levels) where
  -- ---- the walk
  abbrev is_down : Triangle → Pair → Bool
  is_down m x = lt_z (dot n (way m x)) (pos 0)

  abbrev pub downs : Triangle → List Pair → List Pair
  downs m = only (λ x. lt_z (dot n (way m x)) (pos 0))

  unfoldable pub ideal_round : Triangle → Choice
  ideal_round m = choice m (downs m (only (takes_part v) pairs))

  -- at most r steps, from m with k steps done
  unfoldable pub ideal : ℕ → ℕ → Triangle → Triangle × ℕ
  ideal zero k m = (m, k)
  ideal (suc r) k m = elim (ideal_round m) [ Nothing ↦ (m, k) | Chosen x ↦ ideal r (suc k) (step m x) ]

  -- ---- what every step keeps
  pub record Upright (m : Triangle) : Type 0 where
    pub unimodular : det_of m ≡ pos 1
    pub high : All (λ a. pos 1 ≤ℤ dot n a) m
    pub flat : Flat v m

  abbrev pub heights : Triangle → ℤ
  heights m = dot n m.m0 +ℤ dot n m.m1 +ℤ dot n m.m2

  -- x takes part and goes down
  pub record Down (m : Triangle) (x : Pair) : Type 0 where
    pub takes : T (takes_part v x)
    pub down : dot n (way m x) <ℤ pos 0

  new-height : (a b : Vector) → dot n (b ⊖ a) <ℤ pos 0 → pos 1 ≤ℤ dot n (a ⊖ b)
  new-height a b h =
      rw (dot-difference n a b) (let p = atom (dot n a) in let q = atom (dot n b) in goal (search linear) (omega (arith, fact (search linear) (rw (dot-difference n b a) at h))))

  pub step-upright : (m : Triangle) (x : Pair) → Upright m → Down m x → Upright (step m x)
  step-upright m x u h = record { unimodular = step-det m x ∙ u.unimodular; high = all-with u.high x (new-height (first m x) (second m x) h.down); flat = step-flat v m x h.takes u.flat }

  abbrev four : Triangle → Vector → List ℤ
  four m a = dot n a ∷ dot n m.m0 ∷ dot n m.m1 ∷ dot n m.m2 ∷ []

  heights-with : (m : Triangle) (k : Axis) (a : Vector) → heights (with_vector m k a) ≡ heights m -ℤ dot n (vector_of m k) +ℤ dot n a
  heights-with m axis0 a = byring (four m a) (search sides depth 40 fits 5000) tt
  heights-with m axis1 a = byring (four m a) (search sides depth 40 fits 5000) tt
  heights-with m axis2 a = byring (four m a) (search sides depth 40 fits 5000) tt

  step-heights : (m : Triangle) (x : Pair) → heights (step m x) ≡ heights m -ℤ dot n (second m x)
  step-heights m x =
      heights-with m (from x) (first m x ⊖ second m x)
      ∙ rw (dot-difference n (first m x) (second m x)) (byring (heights m ∷ dot n (first m x) ∷ dot n (second m x) ∷ []) (search sides depth 40 fits 5000) tt)

  -- the sum falls by at least 1, and never below 3
  three : (m : Triangle) → Upright m → pos 3 ≤ℤ heights m
  three m u = let a = atom (dot n m.m0) in let b = atom (dot n m.m1) in let c = atom (dot n m.m2) in goal (search linear) (omega (arith, parts, u.high.of0, u.high.of1, u.high.of2))

  pub step-lower : (m : Triangle) (x : Pair) (r : ℕ) → Upright m → heights m ≤ℤ pos (3 + suc r) → heights (step m x) ≤ℤ pos (3 + r)
  step-lower m x r u h = rw (step-heights m x) (let a = atom (heights m) in let b = atom (dot n (second m x)) in goal (search linear) (omega (arith, parts, all-second u.high x)))

  pub no_step : (m : Triangle) (x : Pair) → Upright m → Down m x → heights m ≤ℤ pos 3 → ⊥
  no_step m x u d h =
      let a = atom (heights m) in let b = atom (dot n (second m x)) in
      omega (arith, parts, all-second u.high x, fact (search linear) (rw (step-heights m x) at (three (step m x) (step-upright m x u d))))

  -- ---- a round
  pub round-down : (m : Triangle) → Chose (Down m) (Unit {0}) (ideal_round m)
  unfolding ideal_round
  round-down m =
      choice-is (Down m) m (downs m ps)
      (each-both-of (λ x. T (is_down m x)) (λ x. T (takes_part v x)) (Down m) (downs m ps) (λ x d t. record { takes = t; down = lt_z_yes d }) (only-holds (is_down m) ps) (only-each (is_down m) (λ x. T (takes_part v x)) ps (only-holds (takes_part v) pairs)))
    where
      ps : List Pair
      ps = only (takes_part v) pairs

  -- no pair that takes part goes down
  pub record Even (m : Triangle) : Type 0 where
    pub upright : Upright m
    pub none : (x : Pair) → T (takes_part v x) → pos 0 ≤ℤ dot n (way m x)

  none-even : (m : Triangle) → Upright m → ideal_round m ≡ Nothing → Even m
  unfolding ideal_round
  none-even m u e = record {
    upright = u;
    none = λ x t. let f = each_member (λ x. is_down m x ≡ false) x (only (takes_part v) pairs) (only_none (is_down m) (only (takes_part v) pairs) (choice-exists m u.unimodular _ e)) (taking-in v x t) in lt_z_no (rw f tt);
  }

  lowest : (m : Triangle) → Upright m → heights m ≤ℤ pos 3 → Even m
  lowest m u h =
      let a = atom (dot n m.m0) in let b = atom (dot n m.m1) in let c = atom (dot n m.m2) in
      let f = fact (search linear) h in let h0 = u.high.of0 in let h1 = u.high.of1 in let h2 = u.high.of2 in
      let one : All (λ a. dot n a ≡ pos 1) m = record { of0 = omega (arith, parts); of1 = omega (arith, parts); of2 = omega (arith, parts) } in
      record { upright = u; none = λ x t. rw (dot-difference n (second m x) (first m x), all_first one x, all-second one x) (omega (arith, parts)) }

  -- ---- the ideal walk ends where no pair falls, after at most r steps
  pub ideal-even : (r k : ℕ) (m : Triangle) → Upright m → heights m ≤ℤ pos (3 + r) → Even (ideal r k m).0
  unfolding ideal
  ideal-even zero k m u h = lowest m u h
  ideal-even (suc r) k m u h = go (ideal_round m) refl (λ x. ideal-even r (suc k) (step m x))
    where
      go : (c : Choice) → ideal_round m ≡ c → ((x : Pair) → Upright (step m x) → heights (step m x) ≤ℤ pos (3 + r) → Even (ideal r (suc k) (step m x)).0)
          → Even (elim c as (λ _. Triangle × ℕ) [ Nothing ↦ (m, k) | Chosen x ↦ ideal r (suc k) (step m x) ]).0
      go Nothing e f = none-even m u e
      go (Chosen x) e f = f x (step-upright m x u (rw e at (round-down m))) (step-lower m x r u h)

  pub ideal-steps : (r k : ℕ) (m : Triangle) → (ideal r k m).1 ≤ k + r
  unfolding ideal
  ideal-steps zero k m = omega arith
  ideal-steps (suc r) k m = go (ideal_round m) (λ x. ideal-steps r (suc k) (step m x))
    where
      go : (c : Choice) → ((x : Pair) → (ideal r (suc k) (step m x)).1 ≤ suc k + r) → (elim c as (λ _. Triangle × ℕ) [ Nothing ↦ (m, k) | Chosen x ↦ ideal r (suc k) (step m x) ]).1 ≤ k + suc r
      go Nothing f = omega arith
      go (Chosen x) f = omega (arith, f x)

  -- one round of it
  pub ideal-ends : (r k : ℕ) (m : Triangle) → Nothing ≡ ideal_round m → ideal r k m ≡ (m, k)
  unfolding ideal
  ideal-ends zero k m e = refl
  ideal-ends (suc r) k m e = rw (← e, ideal)

  pub ideal-goes-on : (r k : ℕ) (m : Triangle) (x : Pair) → Chosen x ≡ ideal_round m → ideal (suc r) k m ≡ ideal r (suc k) (step m x)
  unfolding ideal
  ideal-goes-on r k m x e = rw (← e, ideal)

-- ---- the ideal walk of a slope's normal n, in the frame of signs s: with 1 along the axes where n has no part, and as many steps as its size leaves
abbrev pub ideal_of : Vector → Vector → Triangle × ℕ
ideal_of s n = ideal (raised (levels_of n) (lay s n)) (levels_of n) (size n - length (remaining (levels_of n))) 0 units
