-- The law, as it is proved of the machine's commands.
use Rattle.sym_parts.proofs.ShapesLemmas.StepsKept.{step_is_never_stuck}
use Rattle.sym_parts.proofs.shapes.steps.step_is_never_stuck.Goals as goal

pub returns : goal.returns
returns c = step_is_never_stuck
