-- The axis's side says whether the point lies in the box, then the voxel by the rank that is at hand.
use mathlib.Core.Path.{◌≡◌, ap, ◌∙◌}
use mathlib.Core.Bool.{Bool}
use mathlib.Core.List.{List}
use Prim.Native.Nat.{ℕ}
use lib.IntN.{ℤ, pos}
use mir.Syntax.{w32}
use mir.Val.{SFits, to_z, of_z}
use mir.Facts.{to_z-of_z}
use Rattle.rules.specs.declared.Vector.{Vector}
use Rattle.rules.specs.declared.Solid.{Solid}
use Rattle.rules.specs.Solids.{box, in_side, in_box}
use Rattle.rules.specs.declared.Axis.{Axis}
use Rattle.axis.specs.Axes.{with_part}
use Rattle.solid.specs.Asks.{PermittedSolid, InBoxOf}
use Rattle.solid.specs.Grid.{grid_of, side_at}
use Rattle.solid.specs.Ranks.{in-box-along}
use Rattle.solid.proofs.Looks.{looked-outside, see-asks, looked-inside}
use Rattle.solid.proofs.Body.look_along.Goals as goal

-- of z as it was read
in-box : {s : Solid} {bytes : List ℕ} (q : Vector) (k : Axis) {z : ℤ} {side : ℕ} {i : Bool} → PermittedSolid s bytes → InBoxOf s q → side ≡ side_at (grid_of s) k → SFits w32 z → i ≡ in_side (pos side) (to_z w32 (of_z w32 z)) → i ≡ in_box (box s) (with_part q k z)
in-box q k {z} {side} h p e f i = in-box-along q k z h p e (i ∙ ap (in_side (pos side)) (to_z-of_z f))

pub see-requires : goal.see-requires
see-requires c =
    let ok = c.args.self.now.permitted in
    see-asks _ ok (in-box c.args.q c.args.axis ok c.requires.0 c.requires.1 c.ranges.z c.is_in_side.ensures) c.if-not-is_in_side.false (to_z-of_z c.ranges.rank ∙ c.requires.2)

pub returns : goal.returns
returns c =
    let ok = c.args.self.now.permitted in
    looked-inside _ ok (in-box c.args.q c.args.axis ok c.requires.0 c.requires.1 c.ranges.z c.is_in_side.ensures) c.if-not-is_in_side.false (to_z-of_z c.ranges.rank ∙ c.requires.2) c.see.ensures

pub returns-then-not-is_in_side : goal.returns-then-not-is_in_side
returns-then-not-is_in_side c =
    let ok = c.args.self.now.permitted in
    looked-outside _ ok (in-box c.args.q c.args.axis ok c.requires.0 c.requires.1 c.ranges.z c.is_in_side.ensures) c.if-not-is_in_side.true
