use Rattle.sound_laws.proofs.BesideLemmas.{does_beside_frame, does_on_any_stack}
use Rattle.sound_laws.proofs.frames.does_beside_frame.Goals as goal

pub returns-clause-alone : goal.returns-clause-alone
returns-clause-alone c = does_beside_frame

pub returns-clause-on_any_stack : goal.returns-clause-on_any_stack
returns-clause-on_any_stack c = does_on_any_stack
