use Rattle.exec_laws.proofs.ExecutionLemmas.{execution_is_sound, execution_is_sound_beside_frames, execution_is_sound_on_any_stack}
use Rattle.exec_laws.proofs.laws.execution_is_sound.Goals as goal

pub returns-clause-alone : goal.returns-clause-alone
returns-clause-alone c = execution_is_sound

pub returns-clause-beside_frames : goal.returns-clause-beside_frames
returns-clause-beside_frames c = execution_is_sound_beside_frames

pub returns-clause-on_any_stack : goal.returns-clause-on_any_stack
returns-clause-on_any_stack c = execution_is_sound_on_any_stack
