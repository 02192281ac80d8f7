-- Every start check on every look, by its rule: which axes are level, what a refusal tells, and how many looks it takes.
use Rattle.std.specs.Prelude.{refl, Bool, List, [], ℕ, ◌+◌, ◌*◌, ◌≤◌, length, ℤ, nat_abs}
use Rattle.std.proofs.Common.{inl, inr, arith}
use Rattle.rules.specs.declared.Vector.{Vector}
use Rattle.rules.specs.declared.Look.{Look}
use Rattle.rules.specs.declared.Axis.{Axis}
use Rattle.rules.specs.Walk.{stop, powers, remaining, Probe, axes}
use Rattle.rules.specs.Pick.{probe, check}
use Rattle.laws.specs.Says.{Says, says-weaker}
use Rattle.laws.specs.Axes.{AxesOf, AxisRule}
use Rattle.laws.proofs.Axes.{axes-says}
use Rattle.laws.specs.PickRule.{Passed, StartRule, check-by-rule}
use Rattle.range.specs.Ranges.{between-naturals}
use Rattle.laws.specs.Checks.{CheckRefusal, CheckReady, CheckStopped}

module _ (ok : Bool) (look : Vector → Look) (p : Vector) (frame reach : ℤ) where
  abbrev c : Probe
  c = probe look p frame reach

  abbrev K : ℕ
  K = length (powers (nat_abs reach))

  -- neither 8 nor a step
  refuse : {number : ℕ} {a : Vector} → (1 ≤ number) × (number ≤ 7) → CheckRefusal c (stop number a 0)
  refuse h = record { no_step = refl; known = (h.0, omega (arith, h.1)); next = λ e. absurd (omega (arith, h.1, e)) }

  at_once : {number : ℕ} {a : Vector} → (1 ≤ number) × (number ≤ 7) → CheckStopped ok look p frame reach (stop number a 0) []
  at_once h = record { refusal = refuse h; few = omega arith; small = inl refl }

  permitted-small : Passed ok c p frame reach → nat_abs reach ≤ 256
  permitted-small h = (between-naturals 1 256 reach h.permitted_reach).1

  looked : {number : ℕ} {a : Vector} {t : List Vector} → Passed ok c p frame reach → (1 ≤ number) × (number ≤ 7) → length t ≤ 2 → CheckStopped ok look p frame reach (stop number a 0) t
  looked h k l = record { refusal = refuse k; few = omega (arith, l); small = inr (permitted-small h) }

  axis-rule : (k : Axis) → AxisRule c (CheckRefusal c) k
  axis-rule k = record { eight = λ a h. record { no_step = refl; known = (omega arith, omega arith); next = λ _. h }; seven = λ _ _. refuse (omega arith, omega arith) }

  every-check : StartRule ok look p frame reach (axes c) (λ v t. AxesOf c v × (length t + length (remaining v) * K ≤ 2 + 6 * K)) (CheckStopped ok look p frame reach)
  every-check = record {
    inputs = record {
      judged = record {
        one = λ _. at_once (omega arith, omega arith);
        two = λ _. at_once (omega arith, omega arith);
        three = λ _. at_once (omega arith, omega arith);
        four_start = λ _. at_once (omega arith, omega arith);
        four_apex = λ _. at_once (omega arith, omega arith);
      };
      five = λ h _. looked h (omega arith, omega arith) (omega arith);
      six = λ h _ _. looked h (omega arith, omega arith) (omega arith);
    };
    begin_says = λ h.
        says-weaker _ (λ v t k. (k.0, omega (arith, k.1))) (λ r t k. record { refusal = k.holds; few = omega (arith, k.few); small = inr (permitted-small h.passed) })
        (axes-says c axis-rule (λ _. refuse (omega arith, omega arith)));
  }

  pub check-says : Says (CheckReady ok look p frame reach) (CheckStopped ok look p frame reach) (check ok look p frame reach)
  check-says = says-weaker _ (λ v t h. record { faced = h.0; asked = h.1.0; few = h.1.1 }) (λ r t h. h) (check-by-rule ok look p frame reach every-check)
