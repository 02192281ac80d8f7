-- `put_replies` answers line by line.
use Rattle.session.proofs.Loop.{replying-more, replying-ends}
use Rattle.session.proofs.put_replies.Goals as goal

pub loop-rest-preserved : goal.loop-rest-preserved
loop-rest-preserved c = search replying-more

pub returns : goal.returns
returns c = search replying-ends
