use Rattle.sym_matching.proofs.RenamingLemmas.CalledLemmas.{called_is_well_formed, post_is_well_formed}
use Rattle.sym_matching.proofs.renaming.laws.called_is_well_formed.Goals as goal

pub returns-clause-pre : goal.returns-clause-pre
returns-clause-pre c = called_is_well_formed

pub returns-clause-post : goal.returns-clause-post
returns-clause-post c = post_is_well_formed
