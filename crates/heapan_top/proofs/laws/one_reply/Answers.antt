-- By what stands first in the stream.
use Rattle.heapan_top.proofs.ReplyLaws.{replies_once}
use Rattle.heapan_top.proofs.laws.one_reply.Goals as goal

pub returns : goal.returns
returns c = replies_once c.one_first.ensures c.one_answer.ensures
