-- By what files are.
use Rattle.session_replies.proofs.FeedLaws.{fed_once}
use Rattle.session_replies.proofs.laws.one_feed.Goals as goal

pub returns : goal.returns
returns c = fed_once c.one_answer.ensures
