use Rattle.sym_matching.proofs.CountLaws.{biabduce_has_sizes, match_has_sizes, subtract_has_sizes}
use Rattle.sym_matching.proofs.answers.answers_have_sizes.Goals as goal

pub returns-clause-both : goal.returns-clause-both
returns-clause-both c = match_has_sizes

pub returns-clause-subtract : goal.returns-clause-subtract
returns-clause-subtract c = subtract_has_sizes

pub returns-clause-biabduce : goal.returns-clause-biabduce
returns-clause-biabduce c = biabduce_has_sizes
