use Rattle.sound_laws.proofs.AnswerLemmas.{answer_is_valid}
use Rattle.sound_laws.proofs.answers.answer_is_valid.Goals as goal

pub returns : goal.returns
returns c = answer_is_valid
