-- The rounds and the end on any look, with any level axes, by the walk's rule: what they found, what a refusal tells, and how many looks they take.
-- Nothing is known here of how the level axes were found: a walk from a ready start was handed them.
use Rattle.std.proofs.Math.Path.{◌≡◌, refl}
use Rattle.std.proofs.Common.{sym, ◌∙◌}
use Rattle.std.specs.Prelude.{Bool, ℕ, zero, suc, ◌+◌, ◌-◌, ◌≤◌}
use Rattle.std.proofs.Math.Bool.{true, false}
use mathlib.Core.List.{List, [], ◌∷◌}
use native.Mathlib.Omega.{arith}
use Rattle.std.proofs.Math.Dec.{leb→le}
use Rattle.std.proofs.Math.ListN.{length}
use Rattle.rules.specs.declared.Vector.{Vector}
use Rattle.rules.specs.declared.Levels.{Levels}
use Rattle.rules.specs.declared.Triangle.{Triangle}
use Rattle.rules.specs.declared.Pair.{Pair}
use Rattle.rules.specs.Vectors.{size}
use Rattle.rules.specs.Walk.{stop, units, way, pairs, normal, keep, only, remaining, takes_part, levelled, Probe, rounds, end, to_the_end}
use Rattle.laws.specs.Tests.{Each}
use Rattle.laws.specs.Tame.{Tame, units-tame, step-tame}
use Rattle.laws.specs.Levels.{two-remain}
use Rattle.laws.specs.Flat.{Flat, units-flat, step-flat}
use Rattle.laws.proofs.Choosing.{choice-exists}
use Rattle.laws.specs.Says.{Says, Few, says-answer, says-ensure, few-bind, few-fewer}
use Rattle.laws.specs.Looks.{Fell, FellOf, StoppedOf}
use Rattle.laws.specs.Chosen.{chosen-only}
use Rattle.laws.specs.Next.{Reached, turn-of}
use Rattle.laws.specs.Walks.{WalkRule, walk-says}
use Rattle.laws.specs.Rounds.{NextRound, RoundSteps, WalkRefusal, End, WalkFound, round_looks}

module _ (c : Probe) (R : ℕ) (v : Levels) where
  none-fell : (m : Triangle) (xs fs : List Pair) → FellOf c m xs fs → fs ≡ [] → Each (λ x. Fell c (way m x) false) xs
  unfolding keep
  none-fell m [] fs h e = tt
  none-fell m (x ∷ xs) fs h e = go h.0 h.2 (sym h.4 ∙ e) (none-fell m xs h.1 h.3)
    where
      go : (b : Bool) → Fell c (way m x) b → keep b x h.1 ≡ [] → (h.1 ≡ [] → Each (λ x. Fell c (way m x) false) xs) → Each (λ x. Fell c (way m x) false) (x ∷ xs)
      go true f e r = absurd (let z : ◌≡◌ {A = ℕ} 0 1 = cc in omega arith)
      go false f e r = (f, r e)

  -- what every round keeps
  record Kept (left r n : ℕ) (m : Triangle) : Type 0 where
    is_left : r ≡ left
    few_steps : n + left ≤ R - length (remaining v)
    two : 1 ≤ n → 2 ≤ length (remaining v)
    tame : Tame m
    flat : Flat v m
    reached : Reached c (only (takes_part v) pairs) n m

  few-steps : (left r n : ℕ) (m : Triangle) → Kept left r n m → RoundSteps c R v n
  few-steps left r n m h = record { allowed = omega (arith, h.few_steps); most = most n h.few_steps h.two }
    where
      most : (n : ℕ) → n + left ≤ R - length (remaining v) → (1 ≤ n → 2 ≤ length (remaining v)) → n ≤ R - 2
      most zero h k = omega arith
      most (suc n) h k = omega (arith, h, k (omega arith))

  next-round : (n : ℕ) (m : Triangle) (p : Vector) → Reached c (only (takes_part v) pairs) n m → StoppedOf c m (only (takes_part v) pairs) p → NextRound c v (stop 8 p n)
  next-round n m p h o = record { triangle = m; reached = h; pair = o.pair; turn = turn-of c o; stopped = o.stopped }

  -- 9 and 10
  other-than-8 : (number n : ℕ) (p : Vector) → (9 ≤ number) × (number ≤ 10) → RoundSteps c R v n → WalkRefusal c R v (stop number p n)
  other-than-8 number n p h k = record { few_steps = k; known = (omega (arith, h.0), h.1); next = λ e. absurd (omega (arith, h.0, e)) }

  every-walk : WalkRule c (only (takes_part v) pairs) Kept (End c R v) (WalkRefusal c R v)
  every-walk = record {
    outside = λ left r n m p h o. record { few_steps = few-steps left r n m h; known = (omega arith, omega arith); next = λ _. next-round n m p h.reached o };
    ends = λ left r n m h w. record {
      tame = h.tame;
      flat = h.flat;
      few_steps = few-steps left r n m h;
      stood = none-fell m (only (takes_part v) pairs) w.0 w.1 (choice-exists m h.tame.unimodular w.0 (sym w.2));
    };
    stops = λ r n m x h w. other-than-8 9 n _ (omega arith, omega arith) (few-steps 0 r n m h);
    steps = λ left r n m x h w. let t = chosen-only c m (takes_part v) pairs x w in (
      left,
      omega (arith, h.is_left),
      record {
        is_left = refl;
        few_steps = omega (arith, h.few_steps);
        two = λ _. two-remain v x t;
        tame = step-tame m x h.tame;
        flat = step-flat v m x t h.flat;
        reached = (m, x, h.reached, w, refl);
      },
    );
  }

  rounds-say : Says (Few (round_looks c R v) (End c R v)) (Few (round_looks c R v) (WalkRefusal c R v)) (rounds c R v)
  unfolding rounds
  rounds-say =
      walk-says c (only (takes_part v) pairs) every-walk (R - length (remaining v)) (R - length (remaining v)) 0 units
      (record { is_left = refl; few_steps = omega arith; two = λ h. absurd (omega (arith, h)); tame = units-tame; flat = units-flat v; reached = refl })

  end-says : (e : Triangle × ℕ) → End c R v e → Says (Few 0 (WalkFound c R v)) (Few 0 (WalkRefusal c R v)) (end c R v e)
  unfolding end
  end-says e h =
      says-ensure _ _ _ (λ _. record { holds = other-than-8 10 e.1 _ (omega arith, omega arith) h.few_steps; few = omega arith })
      (λ n. says-answer (record { holds = record { at = e; is = refl; end = h; fits = leb→le (size (levelled v (normal e.0))) R n }; few = omega arith }))

  pub to-the-end-says : Says (Few (round_looks c R v) (WalkFound c R v)) (Few (round_looks c R v) (WalkRefusal c R v)) (to_the_end c R v)
  to-the-end-says = few-fewer _ (omega arith) (few-bind {M = round_looks c R v} {N = 0} _ _ rounds-say end-says)
