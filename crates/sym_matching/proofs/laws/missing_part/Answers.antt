use Rattle.sym_matching.proofs.MissingLaws.{missing_is_logical, subtract_misses_nothing}
use Rattle.sym_matching.proofs.laws.missing_part.Goals as goal

pub returns-clause-nothing : goal.returns-clause-nothing
returns-clause-nothing c = subtract_misses_nothing

pub returns-clause-logical : goal.returns-clause-logical
returns-clause-logical c = missing_is_logical
