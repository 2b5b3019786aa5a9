use Rattle.sym_parts.proofs.ShapesLemmas.Refuting.{use_after_free}
use Rattle.sym_parts.proofs.shapes.refutations.use_after_free_is_not_valid.Goals as goal

pub returns : goal.returns
returns c = use_after_free
