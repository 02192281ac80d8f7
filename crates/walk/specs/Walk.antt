-- The walk: what its end tells, and what holds before each round.
use Rattle.std.specs.Prelude.{◌≡◌, List, ℕ, ◌+◌, ◌-◌, ◌*◌, ◌≤◌, length, Result, Ok, Err}
use Rattle.rules.specs.declared.Vector.{Vector}
use Rattle.rules.specs.declared.Levels.{Levels}
use Rattle.rules.specs.declared.Axis.{Axis}
use Rattle.rules.specs.declared.Triangle.{Triangle}
use Rattle.rules.specs.declared.Refused.{Refused}
use Rattle.rules.specs.Vectors.{dot, lay}
use Rattle.rules.specs.Asked.{Asked}
use Rattle.rules.specs.Walk.{Stop, unit, units, pairs, remaining, Probe, laid, walk, rounds}
use Rattle.laws.specs.Tally.{Tally, yes, Gives, most_looks}
use Rattle.refusals.specs.Refusals.{refusal_tally}
use Rattle.choice.specs.Sound.{Sound}
use Rattle.round.specs.declared.Corner.{Corner}
use Rattle.round.specs.Corners.{triangle_in, Ranked}
use Rattle.round.specs.Round.{taking}
use Rattle.walk.specs.declared.End.{End}

-- the walk ends with the triangle laid in: in the frame with the signs s it is the definition's
abbrev pub walk_tally : Vector → Result End Refused → Tally Stop (Triangle × ℕ)
walk_tally s (Ok e) = yes (laid s e.triangle, e.steps) e.looks
walk_tally s (Err r) = refusal_tally r

abbrev pub SoundEnd : Vector → Result End Refused → Type 0
SoundEnd s (Ok e) = Sound (laid s e.triangle)
SoundEnd s (Err r) = Unit {0}

-- the unit vector of the axis k laid in, with its rank
pub record IsUnit (s ranks : Vector) (k : Axis) (a : Corner) : Type 0 where
  pub is : a.at ≡ lay s (unit k)
  pub ranked : a.rank ≡ dot ranks a.at

-- ms holds the unit vectors laid in, with their ranks
pub record Units (s ranks : Vector) (ms : List Corner) : Type 0 where
  pub are : triangle_in s ms ≡ units
  pub ranked : Ranked ranks ms
  pub whole : length ms ≡ 3

-- six pairs in each of at most 257 rounds
abbrev pub walk_questions : ℕ
walk_questions = 1542

-- the steps allowed: the reach less the number of remaining axes, none if that is below zero
abbrev pub allowed : ℕ → Levels → ℕ
allowed reach level = reach - length (remaining level)

-- the walk, with the reach R, of the pairs that take part
module _ (c : Probe) (R : ℕ) (level : Levels) where
  abbrev pub walk_from : ℕ → ℕ → Triangle → Asked Stop (Triangle × ℕ)
  walk_from left steps m = walk c (taking level pairs) left steps m

  pub record Walks (looks : ℕ) (r : Result End Refused) : Type 0 where
    pub gives : Gives looks (rounds c R level) (walk_tally c.signs r)
    pub sound : SoundEnd c.signs r

  -- before a round, after n looks: the walk from here gives what the whole walk gives
  pub record Walking (looks : ℕ) (m : Triangle) (steps n : ℕ) : Type 0 where
    pub sound : Sound m
    pub low : steps ≤ allowed R level
    pub high : R ≤ 256
    pub few : n ≤ looks + most_looks (6 * steps)
    pub rest : {r : Tally Stop (Triangle × ℕ)} → Gives n (walk_from (allowed R level - steps) steps m) r → Gives looks (rounds c R level) r
