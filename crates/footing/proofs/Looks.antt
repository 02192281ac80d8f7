-- The looks: what one way's look makes of the ways behind it, and what all ways at one power make of the powers behind it.
use mathlib.Core.Path.{◌≡◌, refl, sym, ap, ◌∙◌}
use mathlib.Core.Bool.{Bool, true, false}
use mathlib.Core.List.{List, [], ◌∷◌}
use Prim.Native.Nat.{ℕ, zero, suc, ◌+◌, ◌*◌, ◌≤◌, ◌<◌}
use native.Mathlib.Omega.{arith}
use native.Mathlib.Numerals.{add-one}
use lib.ListN.{drop}
use lib.Seq.{drop-cons}
use lib.Dec.{lit<, lit≤}
use lib.IntN.{pos}
use Rattle.std.specs.Prelude.{get_or, Ok as AllStand, Err as NotAll}
use Rattle.rules.specs.declared.Pair.TheVariants.{P01}
use Rattle.rules.specs.declared.Vector.{Vector}
use Rattle.rules.specs.declared.Look.{Look}
use Rattle.rules.specs.declared.Look.TheVariants.{Filled, Empty, Outside}
use Rattle.rules.specs.Vectors.{◌⊕◌, scale}
use Rattle.rules.specs.Asked.{Asked}
use Rattle.rules.specs.Walk.{Stop, only, keep, powers_from, powers}
use Rattle.rules.specs.declared.Way.{Way}
use Rattle.rules.specs.declared.Way.TheVariants.{Sideways as sideways}
use Rattle.rules.specs.Firm.{all_ways, belongs, way_of, stands, all_stand, firm_from}
use Rattle.laws.specs.Powers.{powers-last, powers-more}
use Rattle.laws.specs.Tally.{Tally, yes, Gives, tally, then-yes, at_once}
use Rattle.footing.specs.declared.Ground.{Ground}
use Rattle.footing.specs.declared.Ended.{Ended}
use Rattle.footing.specs.declared.Footed.{Footed}
use Rattle.footing.specs.Footing.{Stood, stood_looks, vectors_of, looking as look, Looked, AllLooked, FirmTo}

-- ---- one way
module _ (g : Ground) (way : Way) (power : ℕ) where
  place : Vector
  place = g.start ⊕ scale (pos power) (way_of g.signs g.triangle way)

  seen-there : {u a at : Vector} {k j : Look} → u ≡ way_of g.signs g.triangle way → a ≡ scale (pos power) u → at ≡ g.start ⊕ a → k ≡ look g at → k ≡ j → look g place ≡ j
  unfolding place
  seen-there p q r h e = ap (look g) (sym (r ∙ ap (λ (v : Vector). g.start ⊕ v) (q ∙ ap (scale (pos power)) p))) ∙ sym h ∙ e

module _ {g : Ground} {way : Way} {power looks : ℕ} {u a at : Vector} {k : Look} (p : u ≡ way_of g.signs g.triangle way) (q : a ≡ scale (pos power) u) (r : at ≡ g.start ⊕ a) (h : k ≡ look g at) where
  pub looked-filled : k ≡ Filled → Looked g way power looks (AllStand (looks + 1))
  unfolding place stands tally
  looked-filled e = record { gives = rw (seen-there g way power p q r h e) (record { is = refl }); few = omega arith }

  pub looked-empty : k ≡ Empty → Looked g way power looks (NotAll (record { looks = looks + 1 }))
  unfolding place stands tally
  looked-empty e = record { gives = rw (seen-there g way power p q r h e) (record { is = refl }); few = omega arith }

  pub looked-outside : k ≡ Outside → Looked g way power looks (NotAll (record { looks = looks }))
  unfolding place stands
  looked-outside e = record { gives = rw (seen-there g way power p q r h e) at_once; few = omega arith }

pub ruleset looking = (looked-filled, looked-empty, looked-outside)

-- ---- all ways at one power: before the way i, after n looks, the ways from there on give what all of them give
abbrev way_at : ℕ → Way
way_at i = get_or all_ways i (sideways P01)

ways-from : (i : ℕ) → i < 12 → drop i all_ways ≡ way_at i ∷ drop (i + 1) all_ways
ways-from i h = rw (add-one, drop-cons all_ways i (sideways P01) h)

module _ (g : Ground) (power looks : ℕ) where
  abbrev around : List Way → Asked Stop Bool
  around ws = all_stand (look g) g.start power (vectors_of g ws)

  pub record Looking (i n : ℕ) : Type 0 where
    pub few : n ≤ looks + i
    pub rest : {t : Tally Stop Bool} → Gives n (around (drop i all_ways)) t → Gives looks (around all_ways) t

module _ {g : Ground} {power looks : ℕ} where
  pub looking-begins : Looking g power looks 0 looks
  looking-begins = record { few = omega arith; rest = λ h. h }

  module _ {i n : ℕ} (h : Looking g power looks i n) where
    pub looking-ends : 12 ≤ i → i ≤ 12 → AllLooked g power looks (AllStand n)
    unfolding only all_stand
    looking-ends z l =
        let last : i ≡ 12 = omega arith in
        record { gives = h.rest (rw last at_once); few = omega (arith, h.few, last) }

    module _ (l : i < 12) {b : Bool} (t : b ≡ belongs g.level (way_at i)) where
      pub looking-passed : b ≡ false → Looking g power looks (i + 1) n
      unfolding only keep
      looking-passed e = record { few = omega (arith, h.few); rest = λ k. h.rest (rw (ways-from i l, sym t ∙ e) k) }

      module _ {r : Stood} (e : b ≡ true) (w : Looked g (way_at i) power n r) where
        from-here : {t : Tally Stop Bool} → Gives n (all_stand (look g) g.start power (way_of g.signs g.triangle (way_at i) ∷ vectors_of g (drop (i + 1) all_ways))) t → Gives looks (around g power looks all_ways) t
        unfolding only keep
        from-here k = h.rest (rw (ways-from i l, sym t ∙ e) k)

        pub looking-on : {k : ℕ} → r ≡ AllStand k → Looking g power looks (i + 1) k
        unfolding all_stand
        looking-on f = record { few = omega (arith, h.few, w.few, ap stood_looks f); rest = λ k. from-here (then-yes _ (rw f at w.gives) k) }

        pub looking-stopped : {k : Ended} → r ≡ NotAll k → AllLooked g power looks (NotAll k)
        unfolding all_stand
        looking-stopped f = record { gives = from-here (then-yes _ (rw f at w.gives) at_once); few = omega (arith, h.few, w.few, ap stood_looks f) }

pub ruleset around-looking = (looking-begins, looking-passed, looking-on, looking-stopped, looking-ends)

-- ---- the powers upward: before the power l, after n looks, with F the last at which all stood, those from l on give what all of them give
module _ (g : Ground) (reach looks : ℕ) where
  abbrev upward : ℕ → List ℕ → Asked Stop ℕ
  upward F ls = firm_from (look g) g.start F ls (vectors_of g all_ways)

  pub record Rising (f : Footed) (l : ℕ) : Type 0 where
    pub one : 1 ≤ l
    pub low : l < 512
    pub below : f.power < l
    pub few : f.looks < looks + 12 * l
    pub fuel : ℕ
    pub enough : reach ≤ l + fuel
    pub rest : {t : Tally Stop ℕ} → Gives f.looks (upward f.power (powers_from fuel l reach)) t → Gives looks (upward 0 (powers reach)) t

module _ {g : Ground} {reach looks : ℕ} where
  pub rising-begins : Rising g reach looks (record { power = 0; looks = looks }) 1
  unfolding powers
  rising-begins = record { one = lit≤ tt; low = lit< tt; below = lit< tt; few = omega arith; fuel = reach; enough = omega arith; rest = λ h. h }

  module _ {f : Footed} {l : ℕ} {r : Stood} (h : Rising g reach looks f l) (w : AllLooked g l f.looks r) where
    -- the powers from l on, by what all ways at l gave
    all-stood : (ls : List ℕ) {k : ℕ} {t : Tally Stop ℕ} → r ≡ AllStand k → Gives k (upward g reach looks l ls) t → Gives f.looks (upward g reach looks f.power (l ∷ ls)) t
    unfolding firm_from
    all-stood ls e k = then-yes _ (rw e at w.gives) k

    not-all-stood : (fuel : ℕ) {k : Ended} → r ≡ NotAll k → Gives f.looks (upward g reach looks f.power (powers_from fuel l reach)) (yes f.power k.looks)
    unfolding firm_from powers_from
    not-all-stood zero e = then-yes _ (rw e at w.gives) at_once
    not-all-stood (suc fuel) e = then-yes _ (rw e at w.gives) at_once

    pub rising-stopped : {k : Ended} → r ≡ NotAll k → FirmTo g reach looks (record { power = f.power; looks = k.looks })
    rising-stopped e = record { gives = h.rest (not-all-stood h.fuel e); low = omega (arith, h.below, h.low) }

    pub rising-ends : {k : ℕ} → r ≡ AllStand k → reach ≤ l → FirmTo g reach looks (record { power = l; looks = k })
    unfolding firm_from
    rising-ends e o = record { gives = h.rest (rw (powers-last h.fuel l reach o) (all-stood [] e at_once)); low = omega (arith, h.low) }

    pub rising-on : {k : ℕ} → reach ≤ 256 → r ≡ AllStand k → l < reach → Rising g reach looks (record { power = l; looks = k }) (l * 2)
    rising-on s e o =
        let p = powers-more h.fuel l reach o h.enough in
        let twice : l * 2 ≡ l + l = omega arith in
        rw twice
        record {
          one = omega (arith, h.one);
          low = omega arith;
          below = omega (arith, h.one);
          few = omega (arith, h.few, h.one, w.few, ap stood_looks e);
          fuel = p.0;
          enough = omega (arith, h.one, p.1);
          rest = λ t. h.rest (rw p.2 (all-stood (powers_from p.0 (l + l) reach) e t));
        }

pub ruleset rising = (rising-begins, rising-stopped, rising-ends, rising-on)
