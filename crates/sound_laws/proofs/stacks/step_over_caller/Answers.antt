use Rattle.sound_laws.proofs.StackLemmas.{step_over_caller}
use Rattle.sound_laws.proofs.stacks.step_over_caller.Goals as goal

pub returns : goal.returns
returns c = step_over_caller
