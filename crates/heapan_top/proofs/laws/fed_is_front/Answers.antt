-- By what stands first, command by command.
use Rattle.heapan_top.proofs.FedLaws.{front_fed}
use Rattle.heapan_top.proofs.laws.fed_is_front.Goals as goal

pub returns : goal.returns
returns c = front_fed c.one_first.ensures c.one_answer.ensures c.one_feed.ensures
