-- The body's grid has the ranks of its solid, which are small.
use mathlib.Core.Path.{◌∙◌}
use mir.Syntax.{w32}
use Rattle.integers.specs.Machine.{back}
use Rattle.solid.specs.Ranks.{rank-by-grid, grid-small}
use Rattle.solid.proofs.Body.rank_of.Goals as goal

pub rank_of-requires : goal.rank_of-requires
rank_of-requires c = (grid-small c.args.self.now.permitted c.args.self.now.gridded, c.requires)

pub returns : goal.returns
returns c = rank-by-grid c.args.self.now.solid c.args.v c.args.self.now.gridded (back w32 _ c.rank_of.type_inv ∙ c.rank_of.ensures)
