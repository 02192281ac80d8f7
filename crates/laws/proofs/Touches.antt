-- Every quick touch on every look, by the rules: how many looks it takes, and what a refusal tells.
use Rattle.std.specs.Prelude.{◌≡◌, ◌⊎◌, Bool, T, ℤ, nat_abs}
use Rattle.std.proofs.Math.Path.{refl}
use Rattle.std.proofs.Common.{ap, inl}
use Rattle.std.proofs.Math.Logic.{inr}
use mathlib.Core.List.{List, [], ◌∷◌, ◌++◌}
use Prim.Native.Nat.{ℕ, suc, ◌+◌, ◌*◌, ◌-◌, ◌≤◌}
use native.Mathlib.Omega.{arith}
use Rattle.std.proofs.Math.ListN.{length, length-append}
use Rattle.rules.specs.declared.Vector.{Vector}
use Rattle.rules.specs.declared.Look.{Look}
use Rattle.rules.specs.declared.Levels.{Levels}
use Rattle.rules.specs.declared.Triangle.{Triangle}
use Rattle.rules.specs.declared.Axis.{Axis}
use Rattle.rules.specs.declared.Axis.TheVariants.{Axis0 as axis0, Axis1 as axis1, Axis2 as axis2}
use Rattle.rules.specs.Walk.{Stop, stop, unit, units, pairs, none_level, Probe, corner, all_corners, rounds, found}
use Rattle.rules.specs.Pick.{is_inside, probe}
use Rattle.rules.specs.Touch.{nearer, touch}
use Rattle.range.specs.Ranges.{between-naturals}
use Rattle.laws.specs.Says.{Says, says-weaker, says_both, says_map}
use Rattle.laws.specs.Next.{Reached}
use Rattle.laws.specs.Walks.{WalkRule, walk-says}
use Rattle.laws.specs.Corners.{FirstEmpty, nth-most, corner-empty, corners-say}
use Rattle.laws.specs.PickRule.{Passed, PickRule, touch-by-rule}
use Rattle.laws.specs.Touches.{all_take, three-remain, walk-counted, NextTouch, next-touch, TouchStop, TouchFound}

module _ (ok : Bool) (look : Vector → Look) (p : Vector) (frame reach : ℤ) where
  abbrev d : Probe
  d = nearer (probe look p frame reach)

  abbrev R : ℕ
  R = nat_abs reach

  abbrev Stops : Stop → List Vector → Type 0
  Stops = TouchStop (nearer (probe look p frame reach)) (nat_abs reach)

  -- before the first step, and neither 7, 8 nor 11
  at_once : (number : ℕ) (a : Vector) (t : List Vector) → (1 ≤ number) × (number ≤ 6) → length t ≤ 11 → Stops (stop number a 0) t
  at_once number a t h l = record {
    few_steps = omega arith;
    small = inl refl;
    few = omega (arith, l);
    known = (h.0, omega (arith, h.1), λ e. absurd (omega (arith, h.1, e)));
    next = λ e. absurd (omega (arith, h.1, e));
    corner = λ e. absurd (omega (arith, h.1, e));
  }

  record Kept (left r n : ℕ) (m : Triangle) : Type 0 where
    is_left : r ≡ left
    few_steps : n + left ≤ R - 3
    reached : Reached d pairs n m

  abbrev StopsWalk : Stop → Type 0
  StopsWalk r = (r.steps ≤ R - 3) × ((r.number ≡ 8) ⊎ (r.number ≡ 9)) × (r.number ≡ 8 → NextTouch d r)

  every-walk : WalkRule d pairs Kept (λ e. e.1 ≤ R - 3) StopsWalk
  every-walk = record {
    outside = λ left r n m a h o. (omega (arith, h.few_steps), inl refl, λ _. next-touch (probe look p frame reach) n m a h.reached o);
    ends = λ left r n m h w. omega (arith, h.few_steps);
    stops = λ r n m x h w. (omega (arith, h.few_steps), inr refl, λ e. absurd (omega (arith, e)));
    steps = λ left r n m x h w. (left, omega (arith, h.is_left), record { is_left = refl; few_steps = omega (arith, h.few_steps); reached = (m, x, h.reached, w, refl) });
  }

  rounds-say : Says (λ e t. (e.1 ≤ R - 3) × (length t ≡ 6 * suc e.1)) (λ r t. StopsWalk r × (length t ≤ 6 * suc r.steps)) (rounds d R none_level)
  unfolding rounds
  rounds-say =
      rw (all_take, three-remain)
      (says-weaker _ (λ e t h. (h.0.holds, omega (arith, h.1.1))) (λ r t h. (h.0.holds, omega (arith, h.1.1)))
      (says_both _ (walk-says d pairs every-walk (R - 3) (R - 3) 0 units (record { is_left = refl; few_steps = omega arith; reached = refl })) (walk-counted (probe look p frame reach) (R - 3) 0 units)))

  walk-stop : R ≤ 256 → (r : Stop) (t s : List Vector) → length t ≡ 5 → StopsWalk r × (length s ≤ 6 * suc r.steps) → Stops r (t ++ s)
  walk-stop small r t s five h = record {
    few_steps = h.0.0;
    small = inr small;
    few = omega (arith, five, h.1, length-append t s);
    known = go h.0.1;
    next = h.0.2;
    corner = λ e. absurd (not-eleven h.0.1 e);
  }
    where
      go : (r.number ≡ 8) ⊎ (r.number ≡ 9) → (1 ≤ r.number) × (r.number ≤ 11) × (r.number ≡ 7 → ⊥)
      go (inl e) = (omega (arith, e), omega (arith, e), λ k. absurd (omega (arith, e, k)))
      go (inr e) = (omega (arith, e), omega (arith, e), λ k. absurd (omega (arith, e, k)))

      not-eleven : (r.number ≡ 8) ⊎ (r.number ≡ 9) → r.number ≡ 11 → ⊥
      not-eleven (inl e) k = omega (arith, e, k)
      not-eleven (inr e) k = omega (arith, e, k)

  -- the corners lie in the box
  module _ (inside : T (is_inside (look p)) → T (is_inside (look (probe look p frame reach).apex)) → (k : Axis) → T (is_inside (look (corner (nearer (probe look p frame reach)) (unit k))))) where
    abbrev Level : Levels → List Vector → Type 0
    Level v t = (v ≡ none_level) × (length t ≡ 5)

    abbrev Ended : Levels → Triangle × ℕ → List Vector → Type 0
    Ended v e t = (e.1 ≤ R - 3) × (length t ≡ 5 + 6 * suc e.1)

    every-touch : PickRule ok look p frame reach (1 ∷ []) (all_corners d) Level Ended (TouchFound R) Stops
    unfolding all_corners found
    every-touch = record {
      started = record {
        inputs = record {
          judged = record {
            one = λ _. at_once 1 _ [] (omega arith, omega arith) (omega arith);
            two = λ _. at_once 2 _ [] (omega arith, omega arith) (omega arith);
            three = λ _. at_once 3 _ [] (omega arith, omega arith) (omega arith);
            four_start = λ _. at_once 4 _ [] (omega arith, omega arith) (omega arith);
            four_apex = λ _. at_once 4 _ [] (omega arith, omega arith) (omega arith);
          };
          five = λ h _. at_once 5 _ (p ∷ []) (omega arith, omega arith) (omega arith);
          six = λ h _ _. at_once 6 _ (p ∷ d.apex ∷ []) (omega arith, omega arith) (omega arith);
        };
        begin_says = λ h.
            says_map _ (λ _. none_level)
            (says-weaker _ (λ _ t k. k.1) empty (corners-say d (unit axis0 ∷ unit axis1 ∷ unit axis2 ∷ []) (corners-in h.passed axis0, (corners-in h.passed axis1, (corners-in h.passed axis2, tt)))))
            (λ _ t k. (refl, rw k));
      };
      ended = λ h v. record {
        rounds_say = λ t k. rw k.0 (says-weaker _ (λ e s j. (j.0, omega (arith, j.1, k.1, length-append t s))) (λ r s j. walk-stop (small h.passed) r t s k.1 j) rounds-say);
        ten = λ e t k n. record { few_steps = k.0; small = inr (small h.passed); few = omega (arith, k.1); known = (omega arith, omega arith, λ z. absurd (omega (arith, z))); next = λ z. absurd (omega (arith, z)); corner = λ z. absurd (omega (arith, z)) };
        ends = λ e t k n. record { few_steps = k.0; small = small h.passed; counted = k.1 };
      };
    }
      where
        small : Passed ok (probe look p frame reach) p frame reach → R ≤ 256
        small h = (between-naturals 1 256 reach h.permitted_reach).1

        corners-in : Passed ok (probe look p frame reach) p frame reach → (k : Axis) → T (is_inside (look (corner d (unit k))))
        corners-in h = inside h.start_inside h.apex_inside

        empty : (r : Stop) (t : List Vector) → FirstEmpty d (unit axis0 ∷ unit axis1 ∷ unit axis2 ∷ []) r (length t) → Stops r (p ∷ d.apex ∷ t)
        empty r t k =
            let z = corner-empty d (length t) k in
            let is = z.0.is in
            record {
              few_steps = rw is (omega arith);
              small = inl (ap (λ (r : Stop). r.steps) is);
              few = omega (arith, z.1, nth-most z.0.axis, ap (λ (r : Stop). r.steps) is);
              known = rw is (omega arith, omega arith, λ e. absurd (omega (arith, e)));
              next = λ e. absurd (omega (arith, e, ap (λ (r : Stop). r.number) is));
              corner = λ _. (z.0, omega (arith, z.1));
            }

    pub touch-says : Says (TouchFound (nat_abs reach)) (TouchStop (nearer (probe look p frame reach)) (nat_abs reach)) (touch ok look p frame reach)
    touch-says = touch-by-rule ok look p frame reach every-touch
