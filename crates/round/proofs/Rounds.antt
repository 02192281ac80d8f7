-- The round, pair by pair: a pair that fell is weighed against the best so far, one that kept or that takes no part is passed over, a point outside ends the round.
-- The best of those that fall is the definition's choice, since the triangle's determinant is 1.
use Rattle.std.specs.Prelude.{◌≡◌, refl, Bool, true, false, List, [], ◌∷◌, ℕ, ◌+◌, ◌≤◌, ◌<◌, pos, Option, None, Result, Ok, Err, get_or, drop}
use Rattle.std.proofs.Common.{sym, ap, ◌∙◌, arith, add-one, drop-cons}
use Rattle.rules.specs.declared.Vector.{Vector}
use Rattle.rules.specs.declared.Levels.{Levels}
use Rattle.rules.specs.declared.Triangle.{Triangle}
use Rattle.rules.specs.declared.Pair.{Pair}
use Rattle.rules.specs.Answers.{Choice}
use Rattle.rules.specs.Vectors.{dot, lay}
use Rattle.rules.specs.Asked.{Asked, answered, ◌>>=◌}
use Rattle.rules.specs.Walk.{pairs, only, keep, way, takes_part, Probe, falls, falling, round}
use Rattle.laws.specs.Triples.{det_of}
use Rattle.laws.specs.Sphere.{weight}
use Rattle.laws.specs.Choosing.{better, best}
use Rattle.laws.proofs.Choosing.{best-is-choice}
use Rattle.laws.specs.Tally.{Tally, yes, no, tally, Gives, most_looks, Countable, then-yes, inner-yes, inner-no, made-twice, at_once}
use Rattle.falls.specs.declared.Falls.{Falls}
use Rattle.falls.specs.declared.Falls.TheVariants.{Fell, Kept, Stopped}
use Rattle.falls.specs.declared.Outside.{Outside}
use Rattle.falls.specs.Falls.{falls_tally, falls_looks, Fallen}
use Rattle.choice.specs.declared.Best.{Best}
use Rattle.choice.specs.Best.{best_of, choice_of, lighter}
use Rattle.choice.specs.Sound.{Sound}
use Rattle.choice.specs.Lighter.{Weighs}
use Rattle.choice.proofs.Lighter.{prefers}
use Rattle.round.specs.declared.Round.{Round}
use Rattle.round.specs.Round.{round_tally, round_looks, Weighed, taking, weighing, rest, WayAsked, RoundAsked}

-- ---- what the pair's answer makes of the round, at the best so far
module _ (c : Probe) (m : Triangle) (x : Pair) where
  question : Asked Vector Bool
  question = falls c (lay c.signs (way m x))

  weighed : Choice → Falls → Tally Vector Choice
  weighed b (Fell k) = yes (better m b x) k
  weighed b (Kept k) = yes b k
  weighed b (Stopped o) = no o.place o.looks

  module _ (b : Choice) (n : ℕ) (ps : List Pair) where
    -- the pairs behind, with f made of those of them that fall
    pairs-behind : (k : ℕ) (f : List Pair → List Pair) → Gives k ((falling c m ps >>= λ fs. answered (f fs) []) >>= λ fs. answered (best m b fs) []) (tally k (falling c m ps >>= λ fs. answered (best m b (f fs)) []))
    pairs-behind k f = record { is = sym (ap (tally k) (made-twice (falling c m ps) f (λ fs. best m b fs))) }

    rest-is : (f : Falls) → Gives n question (falls_tally f) → rest c m ps (weighed b f) ≡ rest c m (x ∷ ps) (yes b n)
    unfolding question weighed weighing falling keep best
    rest-is (Fell k) h = (inner-yes _ _ h (pairs-behind k (λ fs. x ∷ fs))).is
    rest-is (Kept k) h = (inner-yes _ _ h (pairs-behind k (λ fs. fs))).is
    rest-is (Stopped o) h = (inner-no _ _ h).is

-- ---- a pair that takes part, from what the falls question promised to what one pair more promises
module _ {c : Probe} {m : Triangle} {x : Pair} {k : Round} {w : Vector} (e : w ≡ lay c.signs (way m x)) where
  way_by : (f : Falls) {r : Result Round Outside} → Fallen c w k.looks f → round_tally r ≡ weighed c m x (choice_of k.best) f → round_looks r ≡ falls_looks f → Weighed m r → WayAsked c m x k r
  unfolding question
  way_by f {r} h t l z = record {
    is = λ ps. ap (rest c m ps) t ∙ rest-is c m x (choice_of k.best) k.looks ps f (rw (← e) h.gives);
    weighed = z;
    few = omega (arith, h.few, l);
  }

  pub way-fell : (l : Vector) {f : Falls} {n : ℕ} {next : Best Pair} {b : Option (Best Pair)} → Sound m → Weighs m k.best → dot l w ≡ weight m x → Fallen c w k.looks f → f ≡ Fell n → next ≡ best_of x (dot l w) → b ≡ lighter k.best next → WayAsked c m x k (Ok (record { best = b; looks = n }))
  unfolding weighed
  way-fell l {n = n} s o g h i p q = let r = prefers s x o g p q in way_by (Fell n) (rw i at h) (ap (λ (z : Choice). yes z n) r.is) refl r.weighs

  pub way-kept : {f : Falls} {n : ℕ} → Weighs m k.best → Fallen c w k.looks f → f ≡ Kept n → WayAsked c m x k (Ok (record { best = k.best; looks = n }))
  unfolding weighed
  way-kept {n = n} o h i = way_by (Kept n) (rw i at h) refl refl o

  pub way-stopped : {f : Falls} {o : Outside} → Fallen c w k.looks f → f ≡ Stopped o → WayAsked c m x k (Err o)
  unfolding weighed
  way-stopped {o = o} h i = way_by (Stopped o) (rw i at h) refl refl tt

-- ---- the whole round
none_left : (c : Probe) (m : Triangle) (r : Tally Vector Choice) → r ≡ rest c m [] r
unfolding weighing falling best
none_left c m (yes b n) = (then-yes _ at_once at_once).is
none_left c m (no p n) = refl

best-of-all : (c : Probe) (m : Triangle) (ps : List Pair) (n : ℕ) → det_of m ≡ pos 1 → rest c m ps (yes None n) ≡ tally n (round c ps m)
unfolding weighing round
best-of-all c m ps n d = ap (λ (g : List Pair → Choice). tally n (falling c m ps >>= λ fs. answered (g fs) [])) (λ i fs. best-is-choice m d fs i)

-- before the pair i: the rest of the round gives what the whole round gives
module _ (c : Probe) (m : Triangle) (level : Levels) (looks : ℕ) where
  pub record Asking (i : ℕ) (k : Round) : Type 0 where
    pub few : k.looks ≤ looks + most_looks i
    pub weighed : Weighs m k.best
    pub rest_gives : rest c m (taking level (drop i pairs)) (round_tally (Ok k)) ≡ tally looks (round c (taking level pairs) m)

module _ {c : Probe} {m : Triangle} {level : Levels} {looks : ℕ} where
  pub asking-begins : Sound m → Asking c m level looks 0 (record { best = None; looks = looks })
  asking-begins s = record { few = omega arith; weighed = tt; rest_gives = best-of-all c m (taking level pairs) looks s.unimodular }

  module _ {i : ℕ} {k : Round} (h : Asking c m level looks i k) where
    pub asking-ends : i ≤ 6 → 6 ≤ i → RoundAsked c m level looks (Ok k)
    unfolding only
    asking-ends l z =
        let last : i ≡ 6 = omega arith in
        record { gives = record { is = none_left c m (round_tally (Ok k)) ∙ (rw last at h.rest_gives) }; weighed = h.weighed; few = omega (arith, h.few, last) }

    pub asking-few : Countable 6 looks → i < 6 → Countable 1 k.looks
    asking-few e l = omega (arith, h.few)

    module _ {x : Pair} (d : Pair) (p : x ≡ get_or pairs i d) (l : i < 6) {b : Bool} (t : b ≡ takes_part level x) where
      pairs-from : drop i pairs ≡ x ∷ drop (i + 1) pairs
      pairs-from = rw (p, add-one, drop-cons pairs i d l)

      pub asking-passed : b ≡ false → Asking c m level looks (i + 1) k
      unfolding only keep
      asking-passed e = record { few = omega (arith, h.few); weighed = h.weighed; rest_gives = rw (pairs-from, sym t ∙ e) at h.rest_gives }

      module _ {r : Result Round Outside} (e : b ≡ true) (w : WayAsked c m x k r) where
        rest-asked : rest c m (taking level (drop (i + 1) pairs)) (round_tally r) ≡ tally looks (round c (taking level pairs) m)
        unfolding only keep
        rest-asked = w.is (taking level (drop (i + 1) pairs)) ∙ (rw (pairs-from, sym t ∙ e) at h.rest_gives)

        pub asking-on : {o : Round} → r ≡ Ok o → Asking c m level looks (i + 1) o
        asking-on g = record { few = omega (arith, h.few, w.few, ap round_looks g); weighed = rw g at w.weighed; rest_gives = rw g at rest-asked }

        pub asking-stopped : {o : Outside} → r ≡ Err o → RoundAsked c m level looks (Err o)
        asking-stopped g = record { gives = record { is = rw g at rest-asked }; weighed = tt; few = omega (arith, h.few, w.few, ap round_looks g) }

pub ruleset asking = (asking-begins, asking-passed, asking-on, asking-stopped, asking-ends)
