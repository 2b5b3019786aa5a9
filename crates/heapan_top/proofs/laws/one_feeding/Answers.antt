-- By what stands first, command by command.
use Rattle.heapan_top.proofs.FedLaws.{fed_once}
use Rattle.heapan_top.proofs.laws.one_feeding.Goals as goal

pub returns : goal.returns
returns c = fed_once c.one_first.ensures c.one_answer.ensures c.one_feed.ensures c.one_saving.ensures
