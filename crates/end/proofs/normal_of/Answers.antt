-- `end::normal_of` meets its contract: three cross products, added up.
use Rattle.end.proofs.Ends.{two-fit, three-fit}
use Rattle.end.proofs.normal_of.Goals as goal

pub add-requires : goal.add-requires
add-requires c =
    two-fit c.args.m c.cross-a.ensures c.cross-b.ensures c.cross-c.ensures c.requires

pub add-requires-2 : goal.add-requires-2
add-requires-2 c =
    three-fit c.args.m c.cross-a.ensures c.cross-b.ensures c.cross-c.ensures
    c.requires c.add.ensures
