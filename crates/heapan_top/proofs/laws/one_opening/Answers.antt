-- By what bytes are loaded as.
use Rattle.heapan_top.proofs.Fronts.{opens_once, opens_some}
use Rattle.heapan_top.proofs.laws.one_opening.Goals as goal

pub returns : goal.returns
returns c = record { one = opens_once c.one_loading.ensures; some = opens_some c.some_loading.ensures }
