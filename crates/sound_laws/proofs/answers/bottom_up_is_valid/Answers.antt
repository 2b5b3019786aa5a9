use Rattle.sound_laws.proofs.BottomUpLemmas.{bottom_up_is_valid}
use Rattle.sound_laws.proofs.answers.bottom_up_is_valid.Goals as goal

pub returns : goal.returns
returns c = bottom_up_is_valid
