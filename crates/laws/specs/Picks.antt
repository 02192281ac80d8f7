-- What a pick tells: what was found, and what of a refusal. `proofs/Picks` says it of every pick on every look.
use Rattle.std.specs.Prelude.{◌≡◌, Bool, ℕ, ◌-◌, ◌≤◌, length, ℤ, nat_abs}
use Rattle.rules.specs.declared.Vector.{Vector}
use Rattle.rules.specs.declared.Look.{Look}
use Rattle.rules.specs.declared.Levels.{Levels}
use Rattle.rules.specs.Walk.{Stop, remaining, Probe, Found}
use Rattle.rules.specs.Pick.{probe}
use Rattle.laws.specs.Next.{NextLook}
use Rattle.laws.specs.Axes.{AxesOf}
use Rattle.laws.specs.PickRule.{Passed}
use Rattle.laws.specs.Rounds.{WalkFound}

-- n steps: at most R - 2, and where one was taken, at most R less the axes that remained when they were asked
pub record FewSteps (c : Probe) (R n : ℕ) : Type 0 where
  pub most : n ≤ R - 2
  pub asked : 1 ≤ n → (v : Levels) × AxesOf c v × (n ≤ R - length (remaining v))

-- what a refusal tells
pub record Refusal (c : Probe) (R : ℕ) (r : Stop) : Type 0 where
  pub few_steps : FewSteps c R r.steps
  pub known : (1 ≤ r.number) × (r.number ≤ 10)
  pub next : r.number ≡ 8 → NextLook c r

-- what an accepted pick tells
pub record Accepting (c : Probe) (R : ℕ) (f : Found) : Type 0 where
  pub level : Levels
  pub asked : AxesOf c level
  pub walked : WalkFound c R level f

module _ (ok : Bool) (look : Vector → Look) (p : Vector) (frame reach : ℤ) where
  -- what was judged before the walk, and the walk's end
  pub record PickFound (f : Found) : Type 0 where
    pub passed : Passed ok (probe look p frame reach) p frame reach
    pub accepting : Accepting (probe look p frame reach) (nat_abs reach) f

  abbrev pub RefusalHere : Stop → Type 0
  RefusalHere = Refusal (probe look p frame reach) (nat_abs reach)
