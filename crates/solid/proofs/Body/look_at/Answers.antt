-- The box's test, then the voxel by its rank.
use mathlib.Core.Path.{◌∙◌}
use mir.Syntax.{w32}
use Rattle.integers.specs.Machine.{back}
use Rattle.solid.proofs.Looks.{looked-outside, rank-asks, see-asks, looked-inside}
use Rattle.solid.proofs.Body.look_at.Goals as goal

pub rank_of-requires : goal.rank_of-requires
rank_of-requires c = rank-asks c.args.p c.args.self.now.permitted c.is_inside.ensures c.if-is_inside.true

pub see-requires : goal.see-requires
see-requires c = see-asks c.args.p c.args.self.now.permitted c.is_inside.ensures c.if-is_inside.true (back w32 _ c.rank_of.type_inv ∙ c.rank_of.ensures)

pub returns-then-is_inside : goal.returns-then-is_inside
returns-then-is_inside c = looked-inside c.args.p c.args.self.now.permitted c.is_inside.ensures c.if-is_inside.true (back w32 _ c.rank_of.type_inv ∙ c.rank_of.ensures) c.see.ensures

pub returns-else-is_inside : goal.returns-else-is_inside
returns-else-is_inside c = looked-outside c.args.p c.args.self.now.permitted c.is_inside.ensures c.if-is_inside.false
