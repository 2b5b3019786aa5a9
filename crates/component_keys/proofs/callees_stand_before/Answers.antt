use Rattle.component_keys.proofs.Ordered.{callees_before}
use Rattle.component_keys.proofs.callees_stand_before.Goals as goal

pub returns : goal.returns
returns c = callees_before
