use Rattle.sym_matching.proofs.AnswerLaws.{match_is_well_formed}
use Rattle.sym_matching.proofs.answers.match_is_well_formed.Goals as goal

pub returns : goal.returns
returns c = match_is_well_formed
