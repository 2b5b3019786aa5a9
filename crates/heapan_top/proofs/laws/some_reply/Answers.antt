-- By what stands first in the stream.
use Rattle.heapan_top.proofs.ReplyLaws.{replies_some}
use Rattle.heapan_top.proofs.laws.some_reply.Goals as goal

pub returns : goal.returns
returns c = replies_some c.some_answer.ensures
