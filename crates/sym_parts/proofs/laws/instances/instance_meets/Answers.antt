use Rattle.sym_parts.proofs.LawsLemmas.InstanceLemmas.{instance_meets, instance_post_meets, instance_state_meets}
use Rattle.sym_parts.proofs.laws.instances.instance_meets.Goals as goal

pub returns-clause-heap : goal.returns-clause-heap
returns-clause-heap c = instance_meets

pub returns-clause-state : goal.returns-clause-state
returns-clause-state c = instance_state_meets

pub returns-clause-post : goal.returns-clause-post
returns-clause-post c = instance_post_meets
