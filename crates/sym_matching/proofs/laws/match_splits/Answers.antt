use Rattle.sym_matching.proofs.MatchLaws.{match_splits}
use Rattle.sym_matching.proofs.laws.match_splits.Goals as goal

pub returns : goal.returns
returns c = match_splits
