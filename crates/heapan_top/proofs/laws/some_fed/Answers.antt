-- By the replies that the stream has.
use Rattle.heapan_top.proofs.FedLaws.{fed_some}
use Rattle.heapan_top.proofs.laws.some_fed.Goals as goal

pub returns : goal.returns
returns c = fed_some c.one_first.ensures c.some_feed.ensures c.some_saving.ensures c.some_reply.ensures
