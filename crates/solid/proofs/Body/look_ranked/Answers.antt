-- The box's test, then the voxel by the rank that is at hand.
use mathlib.Core.Path.{◌∙◌}
use mir.Facts.{to_z-of_z}
use Rattle.solid.proofs.Looks.{looked-outside, see-asks, looked-inside}
use Rattle.solid.proofs.Body.look_ranked.Goals as goal

pub see-requires : goal.see-requires
see-requires c = see-asks c.args.p c.args.self.now.permitted c.is_inside.ensures c.if-not-is_inside.false (to_z-of_z c.ranges.rank ∙ c.requires)

pub returns : goal.returns
returns c = looked-inside c.args.p c.args.self.now.permitted c.is_inside.ensures c.if-not-is_inside.false (to_z-of_z c.ranges.rank ∙ c.requires) c.see.ensures

pub returns-then-not-is_inside : goal.returns-then-not-is_inside
returns-then-not-is_inside c = looked-outside c.args.p c.args.self.now.permitted c.is_inside.ensures c.if-not-is_inside.true
