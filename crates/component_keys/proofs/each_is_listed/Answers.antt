use Rattle.component_keys.proofs.Whole.{components_whole}
use Rattle.component_keys.proofs.each_is_listed.Goals as goal

pub returns : goal.returns
returns c = components_whole
