-- By what files are.
use Rattle.session_replies.proofs.AnswerLaws.{some}
use Rattle.session_replies.proofs.laws.some_answer.Goals as goal

pub returns : goal.returns
returns c = some c.some_answer.ensures
