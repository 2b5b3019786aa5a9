use Rattle.sym_parts.proofs.LawsLemmas.InstanceLemmas.{forgotten_post_meets, forgotten_state_meets}
use Rattle.sym_parts.proofs.laws.instances.expression_may_be_forgotten.Goals as goal

pub returns-clause-state : goal.returns-clause-state
returns-clause-state c = forgotten_state_meets

pub returns-clause-post : goal.returns-clause-post
returns-clause-post c = forgotten_post_meets
