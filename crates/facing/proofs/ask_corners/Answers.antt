-- `facing::ask_corners` meets its contract. The loop's invariant: the corners from here on give what all give.
use Rattle.facing.proofs.Corners.{asking}
use Rattle.facing.proofs.ask_corners.Goals as goal

pub returns : goal.returns
returns c = search asking
