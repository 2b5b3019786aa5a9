-- The law, as it is proved of the machine's commands.
use Rattle.sym_parts.proofs.ShapesLemmas.StepsKept.{start_is_config}
use Rattle.sym_parts.proofs.shapes.steps.start_is_config.Goals as goal

pub returns : goal.returns
returns c = start_is_config
