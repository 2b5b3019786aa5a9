use Rattle.abstraction_laws.proofs.HeadLaws.{abstract_exit_weakens, abstract_head_weakens}
use Rattle.abstraction_laws.proofs.laws.abstraction_weakens.Goals as goal

pub returns-clause-head : goal.returns-clause-head
returns-clause-head c = abstract_head_weakens

pub returns-clause-exit : goal.returns-clause-exit
returns-clause-exit c = abstract_exit_weakens
