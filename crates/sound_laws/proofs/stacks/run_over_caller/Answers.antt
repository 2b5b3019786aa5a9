use Rattle.sound_laws.proofs.StackLemmas.{run_over_caller}
use Rattle.sound_laws.proofs.stacks.run_over_caller.Goals as goal

pub returns : goal.returns
returns c = run_over_caller
