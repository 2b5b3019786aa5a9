use Rattle.component_keys.proofs.Apart.{components_differ}
use Rattle.component_keys.proofs.members_differ.Goals as goal

pub returns : goal.returns
returns c = components_differ
