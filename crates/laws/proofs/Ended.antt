-- A walk ends exactly where no pair falls; there each pair was asked at every power, and every voxel asked for is empty.
use Rattle.std.proofs.Math.Path.{◌≡◌, refl, subst}
use Rattle.std.proofs.Common.{sym, ap, ◌∙◌}
use mathlib.Core.List.{List, [], append-nil}
use Prim.Native.Nat.{ℕ, zero, suc}
use native.Mathlib.Omega.{arith}
use Rattle.std.proofs.Math.IntN.{pos}
use Rattle.rules.specs.declared.Vector.{Vector}
use Rattle.rules.specs.declared.Triangle.{Triangle}
use Rattle.rules.specs.declared.Pair.{Pair}
use Rattle.rules.specs.Answers.{Choice}
use Rattle.std.specs.Prelude.{None as Nothing, Some as Chosen}
use Rattle.rules.specs.Vectors.{lay}
use Rattle.rules.specs.Asked.{answered, after, ◌>>=◌}
use Rattle.rules.specs.Walk.{asked, Probe, falling, round, walk, way, step, first_free, choice}
use Rattle.laws.specs.Tests.{In}
use Rattle.laws.specs.Only.{each_in}
use Rattle.laws.specs.Triples.{det_of, step-det}
use Rattle.laws.specs.Choosing.{Chose, choice-is}
use Rattle.laws.proofs.Choosing.{choice-exists}
use Rattle.laws.specs.Says.{says-answered}
use Rattle.laws.specs.Looks.{RoundOf, round-says}
use Rattle.laws.specs.Next.{Reached}
use Rattle.laws.specs.Answered.{Both, both-answered, asked-answered}
use Rattle.laws.specs.Ended.{Stood, laid_way, none-stood, stood-among, goes_on, rest, walk-text, EndsIfNoneFalls, not-here, reached-determinant}

module _ (c : Probe) where
  module _ (ps : List Pair) where
    module _ (n : ℕ) (m : Triangle) (r : Reached c ps n m) {fs : List Pair} {t : List Vector} (e : falling c m ps ≡ answered fs t) where
      round_is : round c ps m ≡ answered (choice m fs) t
      unfolding round ◌>>=◌ after
      round_is = rw e (ap (answered (choice m fs)) (append-nil t))

      walk_is : (left : ℕ) (x : Choice) → choice m fs ≡ x → walk c ps left n m ≡ after t (rest c ps left n m x)
      unfolding asked ◌>>=◌
      walk_is left x f = walk-text c ps left n m ∙ rw round_is (ap (λ (x : Choice). after t (rest c ps left n m x)) f)

      pub walk_ends : (left : ℕ) → EndsIfNoneFalls c ps left n m fs t
      unfolding after choice first_free
      walk_ends left = record { determinant = one; ends = ends; only = only; goes = goes }
        where
          one : det_of m ≡ pos 1
          one = reached-determinant c ps n m r

          ends : fs ≡ [] → walk c ps left n m ≡ answered (m, n) t
          ends f = walk_is left Nothing (rw f refl) ∙ ap (answered (m, n)) (append-nil t)

          only : (u : List Vector) → walk c ps left n m ≡ answered (m, n) u → fs ≡ []
          only u w = go (choice m fs) refl
            where
              go : (y : Choice) → choice m fs ≡ y → fs ≡ []
              go Nothing f = choice-exists m one fs f
              go (Chosen x) f = absurd (not-here c ps left n m x t (sym (walk_is left (Chosen x) f) ∙ w))

          goes : (fs ≡ [] → ⊥) → (x : Pair) × In x fs × (walk c ps left n m ≡ after t (goes_on c ps left n m x)) × Reached c ps (suc n) (step m x)
          goes some = go (choice m fs) refl (choice-is (λ x. In x fs) m fs (each_in fs))
            where
              go : (y : Choice) → choice m fs ≡ y → Chose (λ x. In x fs) (Unit {0}) y → (x : Pair) × In x fs × (walk c ps left n m ≡ after t (goes_on c ps left n m x)) × Reached c ps (suc n) (step m x)
              go Nothing f i = absurd (some (choice-exists m one fs f))
              go (Chosen x) f i = (x, i, walk_is left (Chosen x) f, (m, x, r, subst (RoundOf c ps m) f (says-answered (round-says c ps m) round_is).holds, refl))

    -- ---- a walk that ended has looked at each way of its triangle, at each power
    last-round : (m : Triangle) → det_of m ≡ pos 1 → {t : List Vector} → round c ps m ≡ answered Nothing t → (x : Pair) → In x ps → Stood c t (laid_way c m x)
    unfolding round
    last-round m d e x i =
        let b = both-answered (falling c m ps) (λ fs. answered (choice m fs) []) e in
        let is : choice m b.answer ≡ Nothing = let k = b.second in cc in
        stood-among c _ b.first_among (none-stood c m ps b.first (choice-exists m d b.answer is) x i)

    -- in this round or in a later one
    ended : (n : ℕ) (m : Triangle) → det_of m ≡ pos 1 → (x : Pair) → In x ps → (e : Triangle × ℕ) (t : List Vector) (left : ℕ) → walk c ps left n m ≡ answered e t
        → ((y : Pair) (u : List Vector) → goes_on c ps left n m y ≡ answered e u → Stood c u (laid_way c e.0 x)) → Stood c t (laid_way c e.0 x)
    ended n m d x i e t left w later = go b.answer (asked-answered n _ b.first) b.second
      where
        b : Both (asked n (round c ps m)) (rest c ps left n m) e t
        b = both-answered _ _ (sym (walk-text c ps left n m) ∙ w)

        go : (y : Choice) → round c ps m ≡ answered y b.front → rest c ps left n m y ≡ answered e b.behind → Stood c t (laid_way c e.0 x)
        go Nothing a k = let is : (m, n) ≡ e = cc in subst (λ (e : Triangle × ℕ). Stood c t (laid_way c e.0 x)) is (stood-among c _ b.first_among (last-round m d a x i))
        go (Chosen y) a k = stood-among c _ b.second_among (later y _ k)

    pub end-stood : (left n : ℕ) (m : Triangle) → det_of m ≡ pos 1 → {e : Triangle × ℕ} {t : List Vector} → walk c ps left n m ≡ answered e t → (x : Pair) → In x ps → Stood c t (lay c.signs (way e.0 x))
    end-stood zero n m d {e} {t} w x i = ended n m d x i e t zero w (λ y u k. absurd (let z : ◌≡◌ {A = ℕ} 0 1 = cc in omega arith))
    end-stood (suc left) n m d {e} {t} w x i = ended n m d x i e t (suc left) w (λ y u k. end-stood left (suc n) (step m y) (step-det m y ∙ d) k x i)
