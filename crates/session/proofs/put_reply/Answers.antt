-- Each way out of `put_reply`: the answer to a question, or "B".
use Rattle.session.proofs.Replies.{answer-space, replies-answer, replies-other}
use Rattle.session.proofs.put_reply.Goals as goal

pub put_answer-requires : goal.put_answer-requires
put_answer-requires c = search answer-space

pub returns-in-Some : goal.returns-in-Some
returns-in-Some c = search replies-answer

pub returns-in-None : goal.returns-in-None
returns-in-None c = search replies-other
