-- `firm::firm_from` meets its contract: by the start's refusals.
use Rattle.lean.specs.Sizes.{measured}
use Rattle.firm.proofs.Standing.{started, from-stands}
use Rattle.firm.proofs.firm_from.Goals as goal

pub invariant_of-ground : goal.invariant_of-ground
invariant_of-ground c = record {
  started = started c.args.body.now c.clear.ensures c.in_ok-looks.was;
  signed = search;
  sized = (measured c.requires.0).triangle-low;
}

pub returns : goal.returns
returns c = search (from-stands, c.in_ok-looks.was)
