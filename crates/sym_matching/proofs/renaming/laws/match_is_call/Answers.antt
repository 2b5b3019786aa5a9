use Rattle.sym_matching.proofs.RenamingLemmas.CallLemmas.{match_is_call}
use Rattle.sym_matching.proofs.renaming.laws.match_is_call.Goals as goal

pub returns : goal.returns
returns c = match_is_call
