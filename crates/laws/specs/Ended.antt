-- A walk that ends. Every triangle that it meets has determinant 1, so a pair is chosen where one falls, and it ends exactly where none does;
-- there each pair was asked at every power, and every voxel asked for is empty.
use Rattle.std.proofs.Math.Path.{◌≡◌, refl, subst}
use Rattle.std.proofs.Common.{sym, ap, ◌∙◌, inl, inr}
use Rattle.std.specs.Prelude.{Bool}
use Rattle.std.proofs.Math.Bool.{true, false}
use mathlib.Core.List.{List, [], ◌∷◌}
use Prim.Native.Nat.{ℕ, zero, suc, ◌≤◌}
use native.Mathlib.Omega.{arith}
use Rattle.std.proofs.Math.IntN.{pos}
use Rattle.rules.specs.declared.Vector.{Vector}
use Rattle.rules.specs.declared.Look.TheVariants.{Empty}
use Rattle.rules.specs.declared.Triangle.{Triangle}
use Rattle.rules.specs.declared.Pair.{Pair}
use Rattle.rules.specs.Answers.{Choice}
use Rattle.std.specs.Prelude.{None as Nothing, Some as Chosen}
use Rattle.rules.specs.Vectors.{◌⊕◌, scale, lay}
use Rattle.rules.specs.Asked.{Asked, answered, refused, after, ◌>>=◌}
use Rattle.rules.specs.Walk.{Stop, stop, asked, Probe, look_at, falls_at, falls, falling, round, walk, way, step, keep}
use Rattle.laws.specs.Tests.{In}
use Rattle.laws.specs.Triples.{det_of, step-det}
use Rattle.laws.specs.Tame.{units-tame}
use Rattle.laws.specs.Says.{says-answered}
use Rattle.laws.specs.Looks.{look-says}
use Rattle.laws.specs.Next.{Reached}
use Rattle.laws.specs.Answered.{Among, Both, both-answered}

module _ (c : Probe) where
  -- the voxel at l times u from the apex is among those looked at, and empty
  pub record StoodAt (t : List Vector) (u : Vector) (l : ℕ) : Type 0 where
    pub looked : In (c.apex ⊕ scale (pos l) u) t
    pub empty : c.look (c.apex ⊕ scale (pos l) u) ≡ Empty

  -- at each power
  abbrev pub Stood : List Vector → Vector → Type 0
  Stood t u = (l : ℕ) → In l c.powers → StoodAt t u l

  stood-there : {s t : List Vector} {u : Vector} {l : ℕ} → Among s t → StoodAt s u l → StoodAt t u l
  stood-there a h = record { looked = a.each _ h.looked; empty = h.empty }

  pub stood-among : {s t : List Vector} (u : Vector) → Among s t → Stood s u → Stood t u
  stood-among u a h l i = stood-there a (h l i)

  look-empty : (p : Vector) {t : List Vector} → look_at c.look p ≡ answered false t → In p t × (c.look p ≡ Empty)
  look-empty p e = let h = says-answered (look-says c p) e in (rw h.1 (inl refl), h.0)

  -- a vector that did not fall
  stood-at : (u : Vector) (ls : List ℕ) {t : List Vector} → falls_at c.look c.apex u ls ≡ answered false t → (l : ℕ) → In l ls → StoodAt t u l
  unfolding falls_at
  stood-at u [] e l i = absurd i
  stood-at u (k ∷ ls) {t} e l i = go b.answer b.first b.second (λ d. stood-at u ls d l) i
    where
      b : Both (look_at c.look (c.apex ⊕ scale (pos k) u)) (λ f. elim f [ true ↦ answered true [] | false ↦ falls_at c.look c.apex u ls ]) false t
      b = both-answered _ _ e

      go : (f : Bool) → look_at c.look (c.apex ⊕ scale (pos k) u) ≡ answered f b.front → ◌≡◌ {A = Asked Vector Bool} (elim f [ true ↦ answered true [] | false ↦ falls_at c.look c.apex u ls ]) (answered false b.behind)
          → (falls_at c.look c.apex u ls ≡ answered false b.behind → In l ls → StoodAt b.behind u l) → In l (k ∷ ls) → StoodAt t u l
      go true a d r i = absurd (let z : ◌≡◌ {A = ℕ} 0 1 = cc in omega arith)
      go false a d r (inl p) = let h = look-empty _ a in rw p (record { looked = b.first_among.each _ h.0; empty = h.1 })
      go false a d r (inr i) = stood-there b.second_among (r d i)

  pub falls-stood : (u : Vector) {t : List Vector} → falls c u ≡ answered false t → Stood t u
  falls-stood u e = stood-at u c.powers e

  abbrev pub laid_way : Triangle → Pair → Vector
  laid_way m x = lay c.signs (way m x)

  -- of a round no pair fell
  pub none-stood : (m : Triangle) (xs : List Pair) {fs : List Pair} {t : List Vector} → falling c m xs ≡ answered fs t → fs ≡ [] → (x : Pair) → In x xs → Stood t (laid_way m x)
  unfolding falling keep
  none-stood m [] e n x i = absurd i
  none-stood m (y ∷ ys) {fs} {t} e n x i = go b.answer b.first keeps (λ k. none-stood m ys d.first k x) i
    where
      b : Both (falls c (laid_way m y)) (λ f. falling c m ys >>= λ r. answered (keep f y r) []) fs t
      b = both-answered _ _ e

      d : Both (falling c m ys) (λ r. answered (keep b.answer y r) []) fs b.behind
      d = both-answered _ _ b.second

      keeps : keep b.answer y d.answer ≡ []
      keeps = let is : keep b.answer y d.answer ≡ fs = let k = d.second in cc in is ∙ n

      go : (f : Bool) → falls c (laid_way m y) ≡ answered f b.front → keep f y d.answer ≡ [] → (d.answer ≡ [] → In x ys → Stood d.front (laid_way m x)) → In x (y ∷ ys) → Stood t (laid_way m x)
      go true a k r i = absurd (let z : ◌≡◌ {A = ℕ} 0 1 = cc in omega arith)
      go false a k r (inl p) = rw p (stood-among _ b.first_among (falls-stood (laid_way m y) a))
      go false a k r (inr i) = stood-among _ b.second_among (stood-among _ d.first_among (r k i))

  module _ (ps : List Pair) where
    -- ---- every triangle that a walk meets has determinant 1
    pub reached-determinant : (n : ℕ) (m : Triangle) → Reached c ps n m → det_of m ≡ pos 1
    reached-determinant zero m e = ap det_of e ∙ units-tame.unimodular
    reached-determinant (suc n) m r = ap det_of r.4 ∙ step-det r.0 r.1 ∙ reached-determinant n r.0 r.2

    -- where a pair falls: refusal 9, or a step and the rounds after it
    abbrev pub goes_on : ℕ → ℕ → Triangle → Pair → Asked Stop (Triangle × ℕ)
    goes_on zero n m x = refused (stop 9 c.apex n) []
    goes_on (suc left) n m x = walk c ps left (suc n) (step m x)

    abbrev pub rest : ℕ → ℕ → Triangle → Choice → Asked Stop (Triangle × ℕ)
    rest left n m = λ chosen. elim chosen [ Nothing ↦ answered (m, n) [] | Chosen x ↦ goes_on left n m x ]

    pub walk-text : (left n : ℕ) (m : Triangle) → walk c ps left n m ≡ (asked n (round c ps m) >>= rest left n m)
    unfolding walk
    walk-text zero n m = refl
    walk-text (suc left) n m = refl

    -- the round at m after n steps, in which the pairs fs fell: the walk ends there exactly if none did
    pub record EndsIfNoneFalls (left n : ℕ) (m : Triangle) (fs : List Pair) (t : List Vector) : Type 0 where
      pub determinant : det_of m ≡ pos 1
      pub ends : fs ≡ [] → walk c ps left n m ≡ answered (m, n) t
      pub only : (u : List Vector) → walk c ps left n m ≡ answered (m, n) u → fs ≡ []
      pub goes : (fs ≡ [] → ⊥) → (x : Pair) × In x fs × (walk c ps left n m ≡ after t (goes_on left n m x)) × Reached c ps (suc n) (step m x)

    -- a walk that goes on has taken no fewer steps at its end
    no-fewer : (n : ℕ) (m : Triangle) (left : ℕ) {e : Triangle × ℕ} {t : List Vector} → walk c ps left n m ≡ answered e t → ((y : Pair) (u : List Vector) → goes_on left n m y ≡ answered e u → n ≤ e.1) → n ≤ e.1
    no-fewer n m left {e} {t} w later = go b.answer b.second
      where
        b : Both (asked n (round c ps m)) (rest left n m) e t
        b = both-answered _ _ (sym (walk-text left n m) ∙ w)

        go : (y : Choice) → rest left n m y ≡ answered e b.behind → n ≤ e.1
        go Nothing k = let is : (m, n) ≡ e = cc in subst (λ (e : Triangle × ℕ). n ≤ e.1) is (omega arith)
        go (Chosen y) k = later y _ k

    steps-kept : (left n : ℕ) (m : Triangle) {e : Triangle × ℕ} {t : List Vector} → walk c ps left n m ≡ answered e t → n ≤ e.1
    steps-kept zero n m w = no-fewer n m zero w (λ y u k. absurd (let z : ◌≡◌ {A = ℕ} 0 1 = cc in omega arith))
    steps-kept (suc left) n m w = no-fewer n m (suc left) w (λ y u k. omega (arith, steps-kept left (suc n) (step m y) k))

    -- so where a pair falls it does not end here: it refuses 9, or takes one step more at least
    pub not-here : (left n : ℕ) (m : Triangle) (x : Pair) (t : List Vector) {u : List Vector} → after t (goes_on left n m x) ≡ answered (m, n) u → ⊥
    unfolding after
    not-here zero n m x t w = let z : ◌≡◌ {A = ℕ} 0 1 = cc in omega arith
    not-here (suc left) n m x t {u} w = go (walk c ps left (suc n) (step m x)) refl w
      where
        go : (y : Asked Stop (Triangle × ℕ)) → walk c ps left (suc n) (step m x) ≡ y → after t y ≡ answered (m, n) u → ⊥
        go (answered e v) f w =
            let is : e ≡ (m, n) = cc in
            let few = subst (λ (e : Triangle × ℕ). suc n ≤ e.1) is (steps-kept left (suc n) (step m x) f) in
            omega (arith, few)
        go (refused r v) f w = let z : ◌≡◌ {A = ℕ} 0 1 = cc in omega arith
