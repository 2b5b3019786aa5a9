-- By each command.
use Rattle.session_replies.proofs.Honest.{honest_so}
use Rattle.session_replies.proofs.laws.honest_answers.Goals as goal

pub returns : goal.returns
returns c = honest_so c.honest_is_from_nothing.ensures
