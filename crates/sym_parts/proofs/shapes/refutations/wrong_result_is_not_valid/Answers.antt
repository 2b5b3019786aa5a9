use Rattle.sym_parts.proofs.ShapesLemmas.Refuting.{wrong_number, wrong_variable}
use Rattle.sym_parts.proofs.shapes.refutations.wrong_result_is_not_valid.Goals as goal

pub returns-clause-number : goal.returns-clause-number
returns-clause-number c = wrong_number

pub returns-clause-variable : goal.returns-clause-variable
returns-clause-variable c = wrong_variable
