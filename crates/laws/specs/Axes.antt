-- The axes: what is known of one that was asked, and of all three; what of each refusal. `proofs/Axes` says it of the questions.
use Rattle.std.specs.Prelude.{◌≡◌, Bool, not}
use Rattle.std.proofs.Math.Bool.{true, false}
use mathlib.Core.List.{List}
use Rattle.std.proofs.Math.Dec.{T}
use Rattle.rules.specs.declared.Vector.{Vector}
use Rattle.rules.specs.declared.Levels.{Levels}
use Rattle.rules.specs.Vectors.{◌⊕◌, minus, lay}
use Rattle.rules.specs.Asked.{answered}
use Rattle.rules.specs.declared.Axis.{Axis}
use Rattle.rules.specs.Walk.{Stop, stop, Probe, unit, level, all_level, is_level}
use Rattle.laws.specs.Looks.{Fell}
use Rattle.laws.specs.Next.{LevelsAnswered, NextLook}

module _ (c : Probe) where
  -- level: nothing fell either way; else it fell downward
  abbrev pub FellAlong : Vector → Bool → Type 0
  FellAlong e true = Fell c (minus e) false × Fell c e false
  FellAlong e false = Fell c (minus e) true

  -- the axis of the unit vector e was asked, and is level or not
  pub record AxisOf (e : Vector) (b : Bool) : Type 0 where
    pub fell : FellAlong e b
    pub voxels : List Vector
    pub is : is_level c e ≡ answered b voxels

  pub record AxesOf (v : Levels) : Type 0 where
    pub axis : (k : Axis) → AxisOf (unit k) (level v k)
    pub some : T (not (all_level v))

  pub levels-answered : {v : Levels} → AxesOf v → LevelsAnswered c v
  levels-answered h k = ((h.axis k).voxels, (h.axis k).is)

  -- refusal 7 for the axis of the unit vector e
  abbrev pub axis_stop : Vector → Stop
  axis_stop e = stop 7 (c.apex ⊕ lay c.signs (minus e)) 0

  -- F of each refusal
  pub record AxisRule (F : Stop → Type 0) (k : Axis) : Type 0 where
    pub eight : (p : Vector) → NextLook c (stop 8 p 0) → F (stop 8 p 0)
    pub seven : Fell c (minus (unit k)) false → Fell c (unit k) true → F (axis_stop (unit k))
