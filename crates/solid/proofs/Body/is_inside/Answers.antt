-- The body's grid has the sides of its solid's box.
use Rattle.solid.specs.Ranks.{in-box-by-grid}
use Rattle.solid.proofs.Body.is_inside.Goals as goal

pub returns : goal.returns
returns c = in-box-by-grid c.args.p c.args.self.now.permitted c.args.self.now.gridded c.is_inside.ensures
