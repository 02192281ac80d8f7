-- The start: what it tells of each axis and of all three, and from its beginning.
use Rattle.std.specs.Prelude.{◌≡◌, Bool, true, false, not, [], ℕ, ◌+◌, ◌≤◌, Result, Ok, Err}
use Rattle.rules.specs.declared.Vector.{Vector}
use Rattle.rules.specs.declared.Levels.{Levels}
use Rattle.rules.specs.declared.Refused.{Refused}
use Rattle.rules.specs.Vectors.{◌⊕◌, minus, lay, unit0}
use Rattle.rules.specs.Asked.{Asked, answered, ◌>>=◌, ◌>>◌}
use Rattle.rules.specs.declared.Axis.{Axis}
use Rattle.rules.specs.declared.Axis.TheVariants.{Axis0 as axis0, Axis1 as axis1, Axis2 as axis2}
use Rattle.rules.specs.Walk.{Stop, stop, ensure, asked, levels, all_level, none_level, Probe, falls, is_level, axes, start, quick_start}
use Rattle.falls.specs.declared.Falls.{Falls}
use Rattle.laws.specs.Tally.{Tally, yes, Gives, most_looks}
use Rattle.falls.specs.Falls.{falls_tally, falls_looks}
use Rattle.refusals.specs.Refusals.{refusal_of, refusal_tally}
use Rattle.facing.specs.Facing.{Cleared}
use Rattle.start.specs.declared.AxisTold.{AxisTold}
use Rattle.start.specs.declared.Begun.{Begun}

-- whether an axis is level, after so many looks; or a refusal
abbrev pub AxisAnswer : Type 0
AxisAnswer = Result AxisTold Refused

abbrev pub axis_told : Bool → ℕ → AxisAnswer
axis_told b n = Ok (record { level = b; looks = n })

abbrev pub axis_tally : AxisAnswer → Tally Stop Bool
axis_tally (Ok a) = yes a.level a.looks
axis_tally (Err r) = refusal_tally r

abbrev pub axis_looks : AxisAnswer → ℕ
axis_looks (Ok a) = a.looks
axis_looks (Err r) = r.looks

-- which axes are level, after so many looks; or a refusal
abbrev pub Start : Type 0
Start = Result Begun Refused

abbrev pub begun : Levels → ℕ → Start
begun v n = Ok (record { level = v; looks = n })

abbrev pub start_tally : Start → Tally Stop Levels
start_tally (Ok b) = yes b.level b.looks
start_tally (Err r) = refusal_tally r

abbrev pub start_looks : Start → ℕ
start_looks (Ok b) = b.looks
start_looks (Err r) = r.looks

-- refusal 7 for the axis of the unit vector e: q less it, laid in
abbrev pub axis_refusal : Vector → Vector → Vector → Stop
axis_refusal q s e = stop 7 (q ⊕ lay s (minus e)) 0

pub record Opposed (q s e : Vector) (looks : ℕ) (r : Refused) : Type 0 where
  pub is : r ≡ refusal_of 7 (q ⊕ lay s (minus e)) 0 looks

-- once the axes are asked
unfoldable pub levels_judged : Vector → Vector → Levels → Asked Stop Levels
levels_judged q s v = do
  ensure (not (all_level v)) (axis_refusal q s unit0)
  answered v []

pub record LevelsJudged (q s : Vector) (v : Levels) (looks : ℕ) (r : Start) : Type 0 where
  pub gives : Gives looks (levels_judged q s v) (start_tally r)
  pub few : start_looks r ≤ looks

-- the levels with an axis told
abbrev pub with_level : Levels → Axis → Bool → Levels
with_level v axis0 b = levels b v.y v.z
with_level v axis1 b = levels v.x b v.z
with_level v axis2 b = levels v.x v.y b

module _ (c : Probe) where
  -- once minus the unit vector e does not fall
  unfoldable pub opposite : Vector → Asked Stop Bool
  opposite e = do
    g ← asked 0 (falls c (lay c.signs e))
    ensure (not g) (axis_refusal c.apex c.signs e)
    answered true []

  pub record MinusAsked (e : Vector) (looks : ℕ) (r : Falls) : Type 0 where
    pub gives : Gives looks (falls c (lay c.signs (minus e))) (falls_tally r)
    pub few : falls_looks r ≤ looks + most_looks 1

  pub record OppositeAsked (e : Vector) (looks : ℕ) (r : AxisAnswer) : Type 0 where
    pub gives : Gives looks (opposite e) (axis_tally r)
    pub few : axis_looks r ≤ looks + most_looks 1

  -- once minus the unit vector e was asked, with the answer f
  pub record AxisJudged (e : Vector) (f : Falls) (r : AxisAnswer) : Type 0 where
    pub gives : {looks : ℕ} → MinusAsked e looks f → Gives looks (is_level c e) (axis_tally r)
    pub few : axis_looks r ≤ falls_looks f + most_looks 1

  pub record AxesAsked (looks : ℕ) (r : Start) : Type 0 where
    pub gives : Gives looks (axes c) (start_tally r)
    pub few : start_looks r ≤ looks + most_looks 6

-- ---- of a quick touch: once the corners were asked
abbrev pub quickly : Cleared → Start
quickly (Ok n) = begun none_level n
quickly (Err r) = Err r

abbrev pub start_of : Bool → Probe → Vector → Asked Stop Levels
start_of true = quick_start
start_of false = start

pub record Started (quick : Bool) (c : Probe) (p : Vector) (r : Start) : Type 0 where
  pub gives : Gives 0 (start_of quick c p) (start_tally r)
  pub few : start_looks r ≤ 2 + most_looks 6
