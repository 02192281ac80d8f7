-- What a start check tells, by its rule: where it is ready, and where it is refused. `proofs/Checks` says it of every check.
use Rattle.std.specs.Prelude.{◌≡◌, ◌⊎◌, Bool, List, ◌+◌, ◌*◌, ◌≤◌, length, ℤ, nat_abs}
use Rattle.rules.specs.declared.Vector.{Vector}
use Rattle.rules.specs.declared.Look.{Look}
use Rattle.rules.specs.declared.Levels.{Levels}
use Rattle.rules.specs.Walk.{Stop, powers, remaining, Probe}
use Rattle.rules.specs.Pick.{probe}
use Rattle.laws.specs.Next.{NextLook}
use Rattle.laws.specs.Axes.{AxesOf}
use Rattle.laws.specs.PickRule.{Faced}

-- what a refusal tells: 1 to 8, before the first step
pub record CheckRefusal (c : Probe) (r : Stop) : Type 0 where
  pub no_step : r.steps ≡ 0
  pub known : (1 ≤ r.number) × (r.number ≤ 8)
  pub next : r.number ≡ 8 → NextLook c r

module _ (ok : Bool) (look : Vector → Look) (p : Vector) (frame reach : ℤ) where
  -- the axes, after p, q and at most K looks for each that remains and 2K for each that is level
  pub record CheckReady (v : Levels) (t : List Vector) : Type 0 where
    pub faced : Faced ok look p frame reach
    pub asked : AxesOf (probe look p frame reach) v
    pub few : length t + length (remaining v) * length (powers (nat_abs reach)) ≤ 2 + 6 * length (powers (nat_abs reach))

  -- no look before the reach was judged
  pub record CheckStopped (r : Stop) (t : List Vector) : Type 0 where
    pub refusal : CheckRefusal (probe look p frame reach) r
    pub few : length t ≤ 2 + 6 * length (powers (nat_abs reach))
    pub small : (length t ≡ 0) ⊎ (nat_abs reach ≤ 256)
