use Rattle.sym_parts.proofs.ShapesLemmas.Refuting.{frees_the_frame, writes_the_frame}
use Rattle.sym_parts.proofs.shapes.refutations.frame_stays.Goals as goal

pub returns-clause-freed : goal.returns-clause-freed
returns-clause-freed c = frees_the_frame

pub returns-clause-written : goal.returns-clause-written
returns-clause-written c = writes_the_frame
