-- A line: a unit vector laid in, or minus it, and what a question along its axis reads of the scene.
use Rattle.std.specs.Prelude.{◌≡◌, ℕ, ℤ, neg_ℤ, ◌*ℤ◌}
use Rattle.rules.specs.declared.Vector.{Vector}
use Rattle.rules.specs.Vectors.{scale, dot}
use Rattle.rules.specs.declared.Axis.{Axis}
use Rattle.rules.specs.Walk.{unit}
use Rattle.laws.specs.Frames.{IsSign}
use Rattle.laws.specs.Parts.{part}
use Rattle.solid.specs.Grid.{ranks_of, grid_of, side_at}
use Rattle.falls.specs.declared.Scene.{Scene}
use Rattle.along.specs.declared.Line.{Line}

abbrev pub line : Axis → ℕ → ℤ → ℤ → ℤ → Line
line k side from step rise = record { axis = k; side = side; from = from; step = step; rise = rise }

-- an axis's unit vector, laid in
abbrev pub line_of : Scene → Axis → Line
line_of v k = line k (side_at v.grid k) (part k v.apex) (part k v.signs) (part k v.signs *ℤ part k v.grid.ranks)

-- its opposite
abbrev pub turned_line : Line → Line
turned_line l = line l.axis l.side l.from (neg_ℤ l.step) (neg_ℤ l.rise)

-- a line's vector
abbrev pub way_along : Line → Vector
way_along l = scale l.step (unit l.axis)

-- what the question along it takes for granted
pub record Along (v : Scene) (l : Line) : Type 0 where
  pub side : l.side ≡ side_at (grid_of v.solid) l.axis
  pub from : l.from ≡ part l.axis v.apex
  pub sign : IsSign l.step
  pub rise : l.rise ≡ dot (ranks_of v.solid) (way_along l)

pub record LineOf (v : Scene) (k : Axis) (l : Line) : Type 0 where
  pub is : l ≡ line_of v k

-- a line of the scene's
pub record LineIn (v : Scene) (l : Line) : Type 0 where
  pub is : l ≡ line_of v l.axis
