use Rattle.solve_laws.proofs.AnnotationLemmas.AnnotationLaws.{done_is_inductive}
use Rattle.solve_laws.proofs.annotation.laws.done_is_inductive.Goals as goal

pub returns : goal.returns
returns c = done_is_inductive
