-- Ranges, on any look whose box lies in a cube. A round that was answered looked at power 1 of every way it asked, inside the box, where q is too,
-- so each of these is within the cube's side, and so is the triangle vector that a step by it puts in.
use Rattle.std.specs.Prelude.{◌≡◌, refl, Bool, List, [], ◌∷◌, ℕ, zero, suc, T, ℤ, pos, ◌+ℤ◌, ◌-ℤ◌, ◌*ℤ◌, ◌≤ℤ◌}
use Rattle.std.proofs.Common.{subst, inl, inr, arith}
use Rattle.std.proofs.Math.Bool.{true, false}
use Rattle.integers.specs.Reify.{byring, sides}
use Rattle.integers.specs.Order.{parts, linear, atom, goal, fact}
use Rattle.integers.specs.Sizes.{Within, sizes, within-linear}
use Rattle.rules.specs.declared.Vector.{Vector}
use Rattle.rules.specs.declared.Look.{Look}
use Rattle.rules.specs.declared.Look.TheVariants.{Outside}
use Rattle.rules.specs.declared.Triangle.{Triangle}
use Rattle.rules.specs.declared.Pair.{Pair}
use Rattle.rules.specs.Answers.{Choice}
use Rattle.rules.specs.Vectors.{◌⊕◌, ◌⊖◌, scale, lay}
use Rattle.rules.specs.Asked.{answered}
use Rattle.rules.specs.Walk.{powers_from, powers, Probe, first, second, way, step, round}
use Rattle.rules.specs.Pick.{is_inside}
use Rattle.laws.specs.Tests.{In}
use Rattle.laws.specs.Parts.{Parts}
use Rattle.laws.specs.Triples.{All, all-with}
use Rattle.laws.specs.Bounds.{Bounded}
use Rattle.laws.specs.Frames.{IsSign, Signs, sign-size}
use Rattle.laws.specs.Says.{says-answered}
use Rattle.laws.specs.Looks.{along, FellAt, Fell, FellOf, round-says}

-- 0 to M
pub record Between (M : ℕ) (z : ℤ) : Type 0 where
  pub low : pos 0 ≤ℤ z
  pub high : z ≤ℤ pos M

abbrev pub InCube : ℕ → Vector → Type 0
InCube M = Parts (Between M)

-- ---- what was looked at was inside
pub not-outside : (look : Vector → Look) (p : Vector) → T (is_inside (look p)) → look p ≡ Outside → ⊥
unfolding is_inside
not-outside look p i e = subst (λ x. T (is_inside x)) e i

-- the powers begin with 1
pub powers-begin : (R : ℕ) → (ls : List ℕ) × (powers R ≡ 1 ∷ ls)
unfolding powers powers_from
powers-begin zero = ([], refl)
powers-begin (suc R) = (_, refl)

module _ (c : Probe) where
  -- u, laid in, at power 1
  abbrev pub IsIn : Vector → Type 0
  IsIn u = T (is_inside (c.look (along c (lay c.signs u) 1)))

  fell-first : (u : Vector) (ls : List ℕ) (b : Bool) → FellAt c u (1 ∷ ls) b → T (is_inside (c.look (along c u 1)))
  unfolding is_inside
  fell-first u ls true (inl e) = rw e tt
  fell-first u ls true (inr f) = rw f.0 tt
  fell-first u ls false f = rw f.0 tt

  -- where the powers begin with 1
  module _ (ls : List ℕ) (begins : c.powers ≡ 1 ∷ ls) where
    fell-in : (u : Vector) (b : Bool) → Fell c u b → IsIn u
    fell-in u b f = fell-first (lay c.signs u) ls b (subst (λ ls. FellAt c (lay c.signs u) ls b) begins f)

    fell-asked : (m : Triangle) (xs fs : List Pair) (x : Pair) → In x xs → FellOf c m xs fs → IsIn (way m x)
    fell-asked m [] fs x i h = absurd i
    fell-asked m (y ∷ ys) fs x (inl e) h = rw e (fell-in (way m y) h.0 h.2)
    fell-asked m (y ∷ ys) fs x (inr i) h = fell-asked m ys h.1 x i h.3

    -- every way that was asked
    pub round-in : (ps : List Pair) (m : Triangle) {x : Choice} {t : List Vector} → round c ps m ≡ answered x t → (y : Pair) → In y ps → IsIn (way m y)
    round-in ps m e y i = let w = (says-answered (round-says c ps m) e).holds in fell-asked m ps w.0 y i w.1

-- ---- numbers
near : (M : ℕ) (q s d : ℤ) → IsSign s → Between M q → Between M (q +ℤ pos 1 *ℤ (s *ℤ d)) → Within M d
near M q s d g h k =
    let e : q +ℤ pos 1 *ℤ (s *ℤ d) ≡ q +ℤ s *ℤ d = byring (q ∷ s ∷ d ∷ []) (search sides depth 40 fits 5000) tt in
    let x = atom q in let y = atom (s *ℤ d) in
    let low = fact (search linear) (rw e at k.low) in
    let high = fact (search linear) (rw e at k.high) in
    let w : Within M (s *ℤ d) = omega (arith, parts, sizes, h.low, h.high) in
    record { size = rw (← sign-size s d g) w.size }

opposite : (M : ℕ) (a b : ℤ) → Within M (b -ℤ a) → Within M (a -ℤ b)
opposite M a b h = let x = atom a in let y = atom b in goal (search (within-linear, linear)) (omega (arith, fact (search (within-linear, linear)) h))

-- ---- vectors
turned-within : (M : ℕ) (a b : Vector) → Bounded M (b ⊖ a) → Bounded M (a ⊖ b)
unfolding ◌⊖◌
turned-within M a b h = record { in-x = opposite M a.x b.x h.in-x; in-y = opposite M a.y b.y h.in-y; in-z = opposite M a.z b.z h.in-z }

module _ (c : Probe) (M : ℕ) (box : (p : Vector) → T (is_inside (c.look p)) → InCube M p) (inside : InCube M c.apex) (signed : Signs c.signs) where
  pub way-within : (u : Vector) → IsIn c u → Bounded M u
  unfolding ◌⊕◌ scale lay
  way-within u i =
      let b = box _ i in
      let q = c.apex in
      let s = c.signs in
      record { in-x = near M q.x s.x u.x signed.of_x inside.of_x b.of_x; in-y = near M q.y s.y u.y signed.of_y inside.of_y b.of_y; in-z = near M q.z s.z u.z signed.of_z inside.of_z b.of_z }

  -- after a round that was answered, whatever step is taken by a pair that it asked
  pub step-within : (ls : List ℕ) → c.powers ≡ 1 ∷ ls → (ps : List Pair) (m : Triangle) {y : Choice} {t : List Vector} → round c ps m ≡ answered y t → All (Bounded M) m → (x : Pair) → In x ps → All (Bounded M) (step m x)
  step-within ls begins ps m e h x i = all-with h x (turned-within M (first m x) (second m x) (way-within (way m x) (round-in c ls begins ps m e x i)))
