use Rattle.sym_matching.proofs.RenamingLemmas.SizeLemmas.{called_is_within_sizes, post_is_within_sizes}
use Rattle.sym_matching.proofs.renaming.laws.called_is_within_sizes.Goals as goal

pub returns-clause-pre : goal.returns-clause-pre
returns-clause-pre c = called_is_within_sizes

pub returns-clause-post : goal.returns-clause-post
returns-clause-post c = post_is_within_sizes
