-- `p4_header::read_comment` meets its contract: the position of the first line end, if there is one.
use Rattle.std.proofs.Common.{rules, tests}
use Rattle.std.proofs.lemmas.Iterator.{YieldsList-from_slice}
use Rattle.std.proofs.lemmas.Iterator.Search.{position_from_yields_List}
use Rattle.rules.specs.P4.{is_end}
use Rattle.p4_header.proofs.Scanning.{comment-closed, comment-unclosed}
use Rattle.p4_header.proofs.read_comment.Goals as goal

pub returns-in-Some : goal.returns-in-Some
returns-in-Some c =
    comment-closed _ c.args.at c.rest-bytes.ensures
    (position_from_yields_List is_end _ _ _ c.position.ensures.ran (YieldsList-from_slice _ c.iter.ensures.rest) (λ x b q k. search (rules, tests)))
    c.in-Some.is

pub returns-in-None : goal.returns-in-None
returns-in-None c =
    comment-unclosed _ c.args.at c.rest-bytes.ensures
    (position_from_yields_List is_end _ _ _ c.position.ensures.ran (YieldsList-from_slice _ c.iter.ensures.rest) (λ x b q k. search (rules, tests)))
    c.in-None.is c.refuse.ensures
