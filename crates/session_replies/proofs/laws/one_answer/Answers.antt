-- By what files are.
use Rattle.session_replies.proofs.AnswerLaws.{once}
use Rattle.session_replies.proofs.laws.one_answer.Goals as goal

pub returns : goal.returns
returns c = once c.one_answer.ensures
