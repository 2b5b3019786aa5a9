use Rattle.sym_matching.proofs.GivesLaws.{biabduce_keeps_bound, subtract_keeps_bound}
use Rattle.sym_matching.proofs.laws.bound_variables_stay.Goals as goal

pub returns-clause-subtract : goal.returns-clause-subtract
returns-clause-subtract c = subtract_keeps_bound

pub returns-clause-biabduce : goal.returns-clause-biabduce
returns-clause-biabduce c = biabduce_keeps_bound
