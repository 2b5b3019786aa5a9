-- By what files are.
use Rattle.session_replies.proofs.SaveLaws.{saved_some}
use Rattle.session_replies.proofs.laws.some_saving.Goals as goal

pub returns : goal.returns
returns c = saved_some c.some_answer.ensures
