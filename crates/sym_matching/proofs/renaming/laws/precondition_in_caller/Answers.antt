use Rattle.sym_matching.proofs.RenamingLemmas.CallLemmas.{arguments_stand, pre_in_caller}
use Rattle.sym_matching.proofs.renaming.laws.precondition_in_caller.Goals as goal

pub returns-clause-holds : goal.returns-clause-holds
returns-clause-holds c = pre_in_caller

pub returns-clause-arguments : goal.returns-clause-arguments
returns-clause-arguments c = arguments_stand
