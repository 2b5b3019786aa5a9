use Rattle.sym_matching.proofs.RenamingLemmas.NumberLemmas.{few_distinct}
use Rattle.sym_matching.proofs.RenamingLemmas.SizeLemmas.{few_binding_variables, few_heap_variables, few_state_variables}
use Rattle.sym_matching.proofs.renaming.laws.variables_are_few.Goals as goal

pub returns-clause-heap : goal.returns-clause-heap
returns-clause-heap c = few_heap_variables

pub returns-clause-state : goal.returns-clause-state
returns-clause-state c = few_state_variables

pub returns-clause-binding : goal.returns-clause-binding
returns-clause-binding c = few_binding_variables

pub returns-clause-distinct : goal.returns-clause-distinct
returns-clause-distinct c = few_distinct
