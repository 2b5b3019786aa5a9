-- By what files are.
use Rattle.session_replies.proofs.FeedLaws.{fed_some}
use Rattle.session_replies.proofs.laws.some_feed.Goals as goal

pub returns : goal.returns
returns c = fed_some c.some_answer.ensures
