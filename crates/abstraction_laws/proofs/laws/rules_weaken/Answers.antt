use Rattle.abstraction_laws.proofs.ForgetLaws.{forget_weakens}
use Rattle.abstraction_laws.proofs.ReduceLaws.{reduce_weakens}
use Rattle.abstraction_laws.proofs.laws.rules_weaken.Goals as goal

pub returns-clause-first : goal.returns-clause-first
returns-clause-first c = forget_weakens

pub returns-clause-others : goal.returns-clause-others
returns-clause-others c = reduce_weakens
