use Rattle.solve_laws.proofs.AnnotationLemmas.AnnotationLaws.{done_is_small, done_is_well_formed}
use Rattle.solve_laws.proofs.annotation.laws.done_is_well_formed.Goals as goal

pub returns-clause-formed : goal.returns-clause-formed
returns-clause-formed c = done_is_well_formed

pub returns-clause-small : goal.returns-clause-small
returns-clause-small c = done_is_small
