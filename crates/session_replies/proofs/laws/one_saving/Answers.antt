-- By what files are.
use Rattle.session_replies.proofs.SaveLaws.{saved_once}
use Rattle.session_replies.proofs.laws.one_saving.Goals as goal

pub returns : goal.returns
returns c = saved_once c.one_answer.ensures
