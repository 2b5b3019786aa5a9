use Rattle.sym_matching.proofs.RenamingLemmas.CallLemmas.{post_is_beside_frame, post_is_in_caller}
use Rattle.sym_matching.proofs.renaming.laws.post_in_caller.Goals as goal

pub returns-clause-alone : goal.returns-clause-alone
returns-clause-alone c = post_is_in_caller

pub returns-clause-beside : goal.returns-clause-beside
returns-clause-beside c = post_is_beside_frame
