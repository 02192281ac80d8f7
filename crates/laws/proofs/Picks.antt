-- Every pick on every look: the start check, then the rounds and the end. What was found, what a refusal tells, and how many looks it takes.
use Rattle.std.specs.Prelude.{◌≡◌, refl, ◌⊎◌, Bool, List, ◌++◌, ℕ, suc, ◌+◌, ◌*◌, ◌-◌, ◌≤◌, max, length, ℤ, nat_abs}
use Rattle.std.proofs.Common.{inl, inr, arith, length-append}
use Rattle.std.proofs.Math.Nat as NatL
use Rattle.rules.specs.declared.Vector.{Vector}
use Rattle.rules.specs.declared.Look.{Look}
use Rattle.rules.specs.declared.Levels.{Levels}
use Rattle.rules.specs.Walk.{Stop, powers, pairs, way, only, remaining, takes_part, Probe, Found}
use Rattle.rules.specs.Pick.{probe, pick}
use Rattle.laws.specs.Levels.{at-most-3, pairs-taking, some-remain}
use Rattle.laws.specs.Says.{Says, Few, says-weaker, says-bind}
use Rattle.laws.specs.Next.{sideways, NextLook, next-look}
use Rattle.laws.specs.Axes.{AxesOf, levels-answered}
use Rattle.laws.specs.Powers.{looks-add-up, three-most}
use Rattle.laws.specs.Rounds.{NextRound, WalkRefusal, WalkFound, round_looks}
use Rattle.laws.proofs.Rounds.{to-the-end-says}
use Rattle.laws.specs.Checks.{CheckRefusal, CheckReady, CheckStopped}
use Rattle.laws.proofs.Checks.{check-says}
use Rattle.range.specs.Ranges.{between-naturals}
use Rattle.laws.specs.Picks.{Refusal, PickFound, RefusalHere}

module _ (c : Probe) (R : ℕ) where
  -- of the start check
  checked : (r : Stop) → CheckRefusal c r → Refusal c R r
  checked r h = record {
    few_steps = record { most = omega (arith, h.no_step); asked = λ k. absurd (omega (arith, h.no_step, k)) };
    known = (h.known.0, omega (arith, h.known.1));
    next = h.next;
  }

  -- of the rounds and the end, once the axes were asked
  module _ (v : Levels) (asked : AxesOf c v) where
    next_here : (r : Stop) → NextRound c v r → NextLook c r
    next_here r h = next-look c (way h.triangle h.pair) (sideways v (levels-answered c asked) h.triangle h.reached h.pair h.turn refl) h.stopped

    walked_to : (r : Stop) → WalkRefusal c R v r → Refusal c R r
    walked_to r h = record {
      few_steps = record { most = h.few_steps.most; asked = λ _. (v, asked, h.few_steps.allowed) };
      known = (omega (arith, h.known.0), h.known.1);
      next = λ e. next_here r (h.next e);
    }

module _ (ok : Bool) (look : Vector → Look) (p : Vector) (frame reach : ℤ) where
  abbrev c : Probe
  c = probe look p frame reach

  abbrev R : ℕ
  R = nat_abs reach

  abbrev K : ℕ
  K = length (powers (nat_abs reach))

  -- the reach, or 3 where it is less
  abbrev M : ℕ
  M = max R 3

  module _ (N : ℕ) (enough : R ≤ 256 → 2 + length (powers R) * (6 * max R 3 - 9) ≤ N) where
    start-few : R ≤ 256 → 2 + 6 * K ≤ N
    start-few h = let k : 6 ≤ 6 * M - 9 = omega arith in omega (arith, enough h, NatL.mul_comm K 6, NatL.mul-le-mul_left K k)

    checked-few : (r : Stop) (t : List Vector) → CheckStopped ok look p frame reach r t → Few N (RefusalHere ok look p frame reach) r t
    checked-few r t h = record { holds = checked c R r h.refusal; few = go h.small }
      where
        go : (length t ≡ 0) ⊎ (R ≤ 256) → length t ≤ N
        go (inl e) = omega (arith, e)
        go (inr s) = omega (arith, h.few, start-few s)

    module _ (v : Levels) (t : List Vector) (h : CheckReady ok look p frame reach v t) where
      small : R ≤ 256
      small = (between-naturals 1 256 reach h.faced.passed.permitted_reach).1

      all-few : (s : List Vector) → length s ≤ round_looks c R v → length (t ++ s) ≤ N
      all-few s k =
          let r = length (remaining v) in
          let most : 6 - r + length (only (takes_part v) pairs) * suc (R - r) ≤ 6 * M - 9 = rw (pairs-taking v) (three-most r R M (some-remain v h.asked.some) (at-most-3 v) (omega arith) (omega arith)) in
          omega (arith, length-append t s, enough small, looks-add-up K r (length (only (takes_part v) pairs)) (R - r) (length t) (length s) (at-most-3 v) h.few k, NatL.mul-le-mul_left K most)

      found-few : (f : Found) (s : List Vector) → Few (round_looks c R v) (WalkFound c R v) f s → Few N (PickFound ok look p frame reach) f (t ++ s)
      found-few f s k = record { holds = record { passed = h.faced.passed; accepting = record { level = v; asked = h.asked; walked = k.holds } }; few = all-few s k.few }

      walked-few : (r : Stop) (s : List Vector) → Few (round_looks c R v) (WalkRefusal c R v) r s → Few N (RefusalHere ok look p frame reach) r (t ++ s)
      walked-few r s k = record { holds = walked_to c R v h.asked r k.holds; few = all-few s k.few }

    pub pick-says : Says (Few N (PickFound ok look p frame reach)) (Few N (RefusalHere ok look p frame reach)) (pick ok look p frame reach)
    unfolding pick
    pick-says = says-bind _ _ (check-says ok look p frame reach) checked-few (λ v t h. says-weaker _ (found-few v t h) (walked-few v t h) (to-the-end-says c R v))
