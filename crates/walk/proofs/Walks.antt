-- The walk, round by round: what the round's answer makes of it.
use mathlib.Core.Path.{◌≡◌, refl, ap, ◌∙◌}
use mathlib.Core.List.{List}
use Prim.Native.Nat.{ℕ, zero, suc, ◌+◌, ◌-◌, ◌≤◌}
use native.Mathlib.Omega.{arith}
use native.Mathlib.Numerals.{add-one}
use mathlib.Core.Bool.{Bool, true}
use lib.Dec.{T}
use lib.IntN.{pos}
use lib.ListN.{length}
use Rattle.rules.specs.declared.Vector.{Vector}
use Rattle.rules.specs.declared.Levels.{Levels}
use Rattle.rules.specs.declared.Triangle.{Triangle}
use Rattle.rules.specs.declared.Pair.{Pair}
use Rattle.rules.specs.declared.Axis.TheVariants.{Axis0 as axis0, Axis1 as axis1, Axis2 as axis2}
use Rattle.std.specs.Prelude.{None, Some, Result, Ok, Err}
use Rattle.rules.specs.declared.Refused.{Refused}
use Rattle.rules.specs.Vectors.{det, cross, dot}
use Rattle.rules.specs.Walk.{Stop, stop, units, pairs, step, Probe, round, walk, rounds}
use Rattle.laws.specs.Triples.{All, det_of, step-det}
use Rattle.laws.specs.Boxes.{look-inside, units-within, chosen-within}
use Rattle.laws.specs.Bounds.{Bounded}
use Rattle.laws.specs.Tally.{Tally, yes, no, Gives, then-yes, then-no, asked-yes, asked-no, at_once, refused-at-once, was-answered}
use Rattle.solid.specs.Grid.{ranks_of}
use Rattle.falls.specs.declared.Scene.{Scene}
use Rattle.falls.specs.declared.Outside.{Outside}
use Rattle.falls.specs.Scene.{probe_of, Ready}
use Rattle.falls.specs.Sizes.{scene-rank}
use Rattle.choice.specs.declared.Best.{Best}
use Rattle.choice.specs.Sound.{Sound}
use Rattle.round.specs.declared.Corner.{Corner}
use Rattle.round.specs.declared.Round.{Round}
use Rattle.round.specs.Corners.{corner_at, corners_in, triangle_in, stepped, Ranked, AllSmall, small, stepped-whole, stepped-ranked, stepped-triangle}
use Rattle.round.specs.Round.{round_tally, round_looks, taking, RoundAsked}
use Rattle.refusals.specs.Refusals.{refusal_of}
use Rattle.walk.specs.Walk.{Units, allowed, Walks, Walking}

module _ (c : Probe) (ps : List Pair) (m : Triangle) (n k : ℕ) where
  walk-stopped : (left : ℕ) {p : Vector} {j : ℕ} → Gives k (round c ps m) (no p j) → Gives k (walk c ps left n m) (no (stop 8 p n) j)
  unfolding walk
  walk-stopped zero h = then-no _ (asked-no n h)
  walk-stopped (suc left) h = then-no _ (asked-no n h)

  walk-ended : (left : ℕ) {j : ℕ} → Gives k (round c ps m) (yes None j) → Gives k (walk c ps left n m) (yes (m, n) j)
  unfolding walk
  walk-ended zero h = then-yes _ (asked-yes n h) at_once
  walk-ended (suc left) h = then-yes _ (asked-yes n h) at_once

  walk-spent : {x : Pair} {j : ℕ} → Gives k (round c ps m) (yes (Some x) j) → Gives k (walk c ps zero n m) (no (stop 9 c.apex n) j)
  unfolding walk
  walk-spent h = then-yes _ (asked-yes n h) refused-at-once

  walk-on : (left : ℕ) {x : Pair} {j : ℕ} {r : Tally Stop (Triangle × ℕ)} → Gives k (round c ps m) (yes (Some x) j) → Gives j (walk c ps left (suc n) (step m x)) r → Gives k (walk c ps (suc left) n m) r
  unfolding walk
  walk-on left h g = then-yes _ (asked-yes n h) g

-- ---- the triangle stays sound
sound-of : {m : Triangle} → All (Bounded 1023) m → det_of m ≡ pos 1 → Sound m
sound-of h d = record { in0 = h.of0; in1 = h.of1; in2 = h.of2; unimodular = d }

units-sound : Sound units
unfolding det cross dot
units-sound = sound-of units-within refl

yes_true : {b : Bool} → b ≡ true → T b
yes_true e = rw e tt

step-sound : {v : Scene} {bytes : List ℕ} (ps : List Pair) {m : Triangle} {x : Pair} {n k : ℕ} → Ready v bytes → Sound m → Gives n (round (probe_of v bytes) ps m) (yes (Some x) k) → Sound (step m x)
step-sound {v} {bytes} ps {m} {x} h o g =
    let answer = was-answered (round (probe_of v bytes) ps m) g in
    sound-of
    (chosen-within v.solid bytes v.apex v.signs v.span ps m (yes_true h.permitted.is) (yes_true (look-inside v.solid bytes v.apex ∙ h.placed.is)) h.signed x answer.1
    record { of0 = o.in0; of1 = o.in1; of2 = o.in2 })
    (step-det m x ∙ o.unimodular)

-- ---- the loop: from what holds before a round and what the round promised, to what holds after it
-- before a round, with the array ms
module _ (v : Scene) (bytes : List ℕ) (level : Levels) (looks : ℕ) where
  pub record Going (ms : List Corner) (steps n : ℕ) : Type 0 where
    pub walking : Walking (probe_of v bytes) v.reach level looks (triangle_in v.signs ms) steps n
    pub ranked : Ranked (ranks_of v.solid) ms
    pub whole : length ms ≡ 3

walk_begins : {c : Probe} {R : ℕ} {level : Levels} {looks : ℕ} {m : Triangle} → R ≤ 256 → m ≡ units → Walking c R level looks m 0 looks
unfolding rounds
walk_begins {R = R} {level} high e = record {
  sound = rw e units-sound;
  low = omega arith;
  high = high;
  few = omega arith;
  rest = λ g. let z : allowed R level - 0 ≡ allowed R level = omega arith in rw (z, e) at g;
}

pub going-begins : {v : Scene} {bytes : List ℕ} {level : Levels} {looks : ℕ} {ms : List Corner} → Ready v bytes → Units v.signs v.grid.ranks ms → Going v bytes level looks ms 0 looks
going-begins {ms = ms} ready h =
    let k = h.ranked in
    record {
      walking = walk_begins ready.reach-high h.are;
      ranked = record { rank0 = scene-rank (corner_at ms axis0).at ready k.rank0; rank1 = scene-rank (corner_at ms axis1).at ready k.rank1; rank2 = scene-rank (corner_at ms axis2).at ready k.rank2 };
      whole = h.whole;
    }

pub going-small : {v : Scene} {bytes : List ℕ} {level : Levels} {looks : ℕ} {ms : List Corner} {steps n : ℕ} → Ready v bytes → Going v bytes level looks ms steps n → AllSmall ms
going-small {ms = ms} ready h = small ms ready h.walking.sound h.ranked

module _ {v : Scene} {bytes : List ℕ} {level : Levels} {looks : ℕ} {ms : List Corner} {steps n : ℕ} {r : Result Round Outside} (going : Going v bytes level looks ms steps n) (g : RoundAsked (probe_of v bytes) (triangle_in v.signs ms) level n r) where
  abbrev h : Walking (probe_of v bytes) v.reach level looks (triangle_in v.signs ms) steps n
  h = going.walking

  -- what the round gave, once its answer is known
  round-gave : {t : Result Round Outside} → r ≡ t → Gives n (round (probe_of v bytes) (taking level pairs) (triangle_in v.signs ms)) (round_tally t)
  round-gave e = rw e at g.gives

  pub walks-stopped : {o : Outside} {a : Refused} → r ≡ Err o → a ≡ refusal_of 8 o.place steps o.looks → Walks (probe_of v bytes) v.reach level looks (Err a)
  walks-stopped e f = record { gives = rw f (h.rest (walk-stopped (probe_of v bytes) (taking level pairs) (triangle_in v.signs ms) steps n (allowed v.reach level - steps) (round-gave e))); sound = tt }

  module _ {o : Round} (e : r ≡ Ok o) where
    pub walks-ended : {t : Triangle} → o.best ≡ None → t ≡ corners_in ms → Walks (probe_of v bytes) v.reach level looks (Ok (record { triangle = t; steps = steps; looks = o.looks }))
    walks-ended f z = rw z record { gives = h.rest (walk-ended (probe_of v bytes) (taking level pairs) (triangle_in v.signs ms) steps n (allowed v.reach level - steps) (rw f at (round-gave e))); sound = h.sound }

    module _ {b : Best Pair} (f : o.best ≡ Some b) where
      chose : Gives n (round (probe_of v bytes) (taking level pairs) (triangle_in v.signs ms)) (yes (Some b.pair) o.looks)
      chose = rw f at (round-gave e)

      pub walks-spent : {limit : ℕ} {a : Refused} → limit ≡ allowed v.reach level → steps ≡ limit → a ≡ refusal_of 9 v.apex steps o.looks → Walks (probe_of v bytes) v.reach level looks (Err a)
      walks-spent l z i =
          let none : allowed v.reach level - steps ≡ 0 = omega arith in
          record { gives = rw i (h.rest (rw none (walk-spent (probe_of v bytes) (taking level pairs) (triangle_in v.signs ms) steps n chose))); sound = tt }

      pub walks-on : {limit : ℕ} {next : List Corner} → Ready v bytes → limit ≡ allowed v.reach level → (steps ≡ limit → ⊥) → next ≡ stepped ms b.pair → Going v bytes level looks next (steps + 1) o.looks
      walks-on {limit} ready l z i =
          let left : allowed v.reach level - steps ≡ suc (allowed v.reach level - suc steps) = omega (arith, h.low) in
          let m = triangle_in v.signs ms in
          let j = stepped-triangle ms going.whole b.pair v.signs in
          rw i record {
            walking = record {
              sound = rw j (step-sound (taking level pairs) ready h.sound chose);
              low = omega (arith, h.low);
              high = h.high;
              few = omega (arith, h.few, g.few, ap round_looks e);
              rest = λ t. h.rest (rw left (walk-on (probe_of v bytes) (taking level pairs) m steps n (allowed v.reach level - suc steps) chose (rw (j, add-one) at t)));
            };
            ranked = stepped-ranked ms going.whole b.pair going.ranked;
            whole = stepped-whole ms going.whole b.pair;
          }

pub ruleset walks = (walks-stopped, walks-ended, walks-spent)
