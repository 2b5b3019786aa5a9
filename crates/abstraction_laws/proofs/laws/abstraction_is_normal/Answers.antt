use Rattle.abstraction_laws.proofs.NormalResults.{abstract_exit_is_normal, abstract_head_is_normal, abstract_pair_is_normal}
use Rattle.abstraction_laws.proofs.NormalResults.{abstract_pre_is_normal}
use Rattle.abstraction_laws.proofs.laws.abstraction_is_normal.Goals as goal

pub returns-clause-head : goal.returns-clause-head
returns-clause-head c = abstract_head_is_normal

pub returns-clause-exit : goal.returns-clause-exit
returns-clause-exit c = abstract_exit_is_normal

pub returns-clause-pair : goal.returns-clause-pair
returns-clause-pair c = abstract_pair_is_normal

pub returns-clause-candidate : goal.returns-clause-candidate
returns-clause-candidate c = abstract_pre_is_normal
