-- `p4_header::read_white` meets its contract: by the byte that stands there: white space, #, another, or none.
use Rattle.std.proofs.Common.{rules}
use Rattle.std.proofs.lemmas.Option.{MatchOption-at_none}
use Rattle.p4_header.proofs.Judgements.{white-space, white-comment, white-other, white-past}
use Rattle.p4_header.proofs.read_white.Goals as goal
use Rattle.p4_header.proofs.read_white.Goals.{in_default-via-in-Some+else-is_white+in_default, in_default-via-in_default}

pub returns-in-Some : goal.returns-in-Some
returns-in-Some c = white-space _ _ (c.in-Some.ensures.lookup.3.1 0) c.is_white.ensures c.if-is_white.true

pub returns-in-Some-eq35 : goal.returns-in-Some-eq35
returns-in-Some-eq35 c = white-comment _ _ (c.in-Some.ensures.lookup.3.1 0) c.in-Some-eq35.field-0-test c.read_comment.ensures

pub returns-in_default : goal.returns-in_default
returns-in_default c = elim c.in_default.branch [
  | in_default-via-in-Some+else-is_white+in_default w ↦ white-other _ _ (w.in-Some.ensures.lookup.3.1 0) w.is_white.ensures w.if-is_white.false (search rules) c.refuse.ensures
  | in_default-via-in_default w ↦ white-past _ _ (MatchOption-at_none _ _ w.in_default.is c.get.ensures.lookup.3) c.refuse.ensures
]
