-- What the rounds and the end tell on any look, with any level axes: what they found, what a refusal tells, and how many looks they take at most.
-- `proofs/Rounds` says it of every walk.
use Rattle.std.proofs.Math.Path.{◌≡◌}
use Rattle.std.specs.Prelude.{ℕ, suc, ◌*◌, ◌-◌, ◌≤◌}
use Rattle.std.proofs.Math.Bool.{false}
use Rattle.std.proofs.Math.ListN.{length}
use Rattle.rules.specs.declared.Levels.{Levels}
use Rattle.rules.specs.declared.Triangle.{Triangle}
use Rattle.rules.specs.declared.Pair.{Pair}
use Rattle.rules.specs.Vectors.{size}
use Rattle.rules.specs.Walk.{Stop, way, pairs, normal, only, remaining, takes_part, levelled, Probe, Found, found}
use Rattle.laws.specs.Tests.{Each}
use Rattle.laws.specs.Tame.{Tame}
use Rattle.laws.specs.Flat.{Flat}
use Rattle.laws.specs.Looks.{Fell, Stopped}
use Rattle.laws.specs.Next.{Reached, TurnOf}

-- refusal 8: the way of a pair that takes part, of the triangle reached, was asked next, and a voxel of it lies outside the box
pub record NextRound (c : Probe) (v : Levels) (r : Stop) : Type 0 where
  pub triangle : Triangle
  pub reached : Reached c (only (takes_part v) pairs) r.steps triangle
  pub pair : Pair
  pub turn : TurnOf c (only (takes_part v) pairs) triangle pair
  pub stopped : Stopped c (way triangle pair) r.place

module _ (c : Probe) (R : ℕ) (v : Levels) where
  -- n steps: at most the reach less the remaining axes, and at most R - 2, since a step needs two remaining axes
  pub record RoundSteps (n : ℕ) : Type 0 where
    pub allowed : n ≤ R - length (remaining v)
    pub most : n ≤ R - 2

  -- what a refusal tells: 8, 9 or 10
  pub record WalkRefusal (r : Stop) : Type 0 where
    pub few_steps : RoundSteps r.steps
    pub known : (8 ≤ r.number) × (r.number ≤ 10)
    pub next : r.number ≡ 8 → NextRound c v r

  -- what an end tells: no pair that takes part fell
  pub record End (e : Triangle × ℕ) : Type 0 where
    pub tame : Tame e.0
    pub flat : Flat v e.0
    pub few_steps : RoundSteps e.1
    pub stood : Each (λ x. Fell c (way e.0 x) false) (only (takes_part v) pairs)

  -- and what was found there, if it is accepted
  pub record WalkFound (f : Found) : Type 0 where
    pub at : Triangle × ℕ
    pub is : f ≡ found c v at
    pub end : End at
    pub fits : size (levelled v (normal at.0)) ≤ R

  -- the most looks: the pairs that take part, at each power, in each round
  abbrev pub round_looks : ℕ
  round_looks = suc (R - length (remaining v)) * (length (only (takes_part v) pairs) * length c.powers)
