-- An accepted pick has looked both ways from its apex, at every power, so at the last: along each level axis, whose opposite was asked too, and along
-- each side between two remaining corners, since with a pair (k, l) the walk's last round asked the pair (l, k). Every voxel looked at there is empty.
use Rattle.std.specs.Prelude.{◌≡◌, refl, false, not, ℕ, T}
use Rattle.std.proofs.Common.{sym, ap₂, ◌∙◌, arith}
use Rattle.std.proofs.Math.Path.{ap}
use Rattle.std.proofs.Math.Bool.{Bool, true}
use mathlib.Core.List.{List, []}
use Rattle.std.proofs.Math.Facts.{yes_and}
use Rattle.rules.specs.declared.Vector.{Vector}
use Rattle.rules.specs.declared.Levels.{Levels}
use Rattle.rules.specs.declared.Triangle.{Triangle}
use Rattle.rules.specs.declared.Pair.{Pair}
use Rattle.rules.specs.declared.Pair.TheVariants.{P01, P02, P10, P12, P20, P21}
use Rattle.rules.specs.Vectors.{◌⊕◌, ◌⊖◌, minus, lay}
use Rattle.rules.specs.Asked.{Asked, answered, ◌>>=◌, ◌>>◌}
use Rattle.rules.specs.declared.Axis.{Axis}
use Rattle.rules.specs.Walk.{Stop, stop, ensure, asked, unit, from, to, vector_of, first, second, way, level, takes_part, Probe, Found, laid, falls, is_level}
use Rattle.laws.specs.Tests.{is_true}
use Rattle.laws.specs.Parts.{difference-turned}
use Rattle.laws.specs.Levels.{levels-eq, from-remains, to-remains}
use Rattle.laws.specs.Tame.{turned}
use Rattle.laws.specs.Frames.{lay-minus, lay-difference}
use Rattle.laws.specs.Next.{LevelsAnswered}
use Rattle.laws.specs.Answered.{Among, Both, both-answered, asked-answered, ensured-answered}
use Rattle.laws.specs.Ended.{Stood, stood-among, falls-stood}
use Rattle.laws.specs.PickParts.{PickParts}
use Rattle.laws.specs.Answers.{laid_of}

-- ---- the pair (l, k)
turned-from : (x : Pair) → from (turned x) ≡ to x
turned-from P01 = refl
turned-from P02 = refl
turned-from P10 = refl
turned-from P12 = refl
turned-from P20 = refl
turned-from P21 = refl

turned-to : (x : Pair) → to (turned x) ≡ from x
turned-to P01 = refl
turned-to P02 = refl
turned-to P10 = refl
turned-to P12 = refl
turned-to P20 = refl
turned-to P21 = refl

pub turned-takes : (v : Levels) (x : Pair) → T (takes_part v x) → T (takes_part v (turned x))
unfolding takes_part
turned-takes v x t = rw (turned-from x, turned-to x) (yes_and (not (level v (to x))) (not (level v (from x))) (to-remains v x t) (from-remains v x t))

pub turned-way : (m : Triangle) (x : Pair) → way m (turned x) ≡ minus (way m x)
turned-way m x = ap₂ (λ (k l : Axis). vector_of m k ⊖ vector_of m l) (turned-to x) (turned-from x) ∙ difference-turned (first m x) (second m x)

pub laid-way : (s : Vector) (m : Triangle) (x : Pair) → way (laid s m) x ≡ lay s (way m x)
laid-way s m x = ap₂ ◌⊖◌ (laid_of s m (to x)) (laid_of s m (from x)) ∙ sym (lay-difference s (second m x) (first m x))

module _ (c : Probe) where
  abbrev s : Vector
  s = c.signs

  -- u and its opposite, at each power
  pub record BothWays (t : List Vector) (u : Vector) : Type 0 where
    pub there : Stood c t u
    pub back : Stood c t (minus u)

  level-stood : (e : Vector) {t : List Vector} → is_level c e ≡ answered true t → BothWays t (lay s e)
  unfolding is_level
  level-stood e {t} h = go a.answer (asked-answered 0 _ a.first) a.second
    where
      opposite : Asked Stop Bool
      opposite = asked 0 (falls c (lay s e)) >>= λ g. ensure (not g) (stop 7 (c.apex ⊕ lay s (minus e)) 0) >> answered true []

      a : Both (asked 0 (falls c (lay s (minus e)))) (λ f. elim f [ true ↦ answered false [] | false ↦ opposite ]) true t
      a = both-answered _ _ h

      upward : (g : Bool) {u : List Vector} → falls c (lay s e) ≡ answered g u → T (not g) → Stood c u (lay s e)
      upward true h n = absurd n
      upward false h n = falls-stood c (lay s e) h

      go : (f : Bool) → falls c (lay s (minus e)) ≡ answered f a.front → ◌≡◌ {A = Asked Stop Bool} (elim f [ true ↦ answered false [] | false ↦ opposite ]) (answered true a.behind) → BothWays t (lay s e)
      go true h k = absurd (let z : ◌≡◌ {A = ℕ} 0 1 = cc in omega arith)
      go false h k =
          let b = both-answered (asked 0 (falls c (lay s e))) _ k in
          record {
            there = stood-among c _ a.second_among (stood-among c _ b.first_among (upward b.answer (asked-answered 0 _ b.first) (ensured-answered _ _ _ b.second).0));
            back = rw (← lay-minus s e) (stood-among c _ a.first_among (falls-stood c (lay s (minus e)) h));
          }

  both-among : {t w : List Vector} {u : Vector} → Among t w → BothWays t u → BothWays w u
  both-among a h = record { there = stood-among c _ a h.there; back = stood-among c _ a h.back }

  -- of a pick
  module _ {R : ℕ} {f : Found} {t : List Vector} (h : PickParts c R f t) where
    pub levels-looked : (k : Axis) → T (level h.levels k) → BothWays t (lay c.signs (unit k))
    levels-looked k l = let a = h.axis k in both-among a.among (level-stood (unit k) (a.is ∙ ap (λ (b : Bool). answered b a.voxels) (is_true (level h.levels k) l)))

    -- the axes asked alone settle which are level
    pub parts-levels : {w : Levels} → LevelsAnswered c w → h.levels ≡ w
    parts-levels asked = levels-eq (λ k. let e = sym (h.axis k).is ∙ (asked k).1 in cc)
