use Rattle.sym_matching.proofs.AnswerLaws.{biabduce_is_well_formed, subtract_is_well_formed}
use Rattle.sym_matching.proofs.answers.answers_are_well_formed.Goals as goal

pub returns-clause-subtract : goal.returns-clause-subtract
returns-clause-subtract c = subtract_is_well_formed

pub returns-clause-biabduce : goal.returns-clause-biabduce
returns-clause-biabduce c = biabduce_is_well_formed
