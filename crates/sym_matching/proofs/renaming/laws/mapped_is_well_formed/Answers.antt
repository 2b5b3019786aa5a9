use Rattle.sym_matching.proofs.RenamingLemmas.SizeLemmas.{mapped_heap_is_well_formed, mapped_is_within_sizes, mapped_post_is_well_formed}
use Rattle.sym_matching.proofs.RenamingLemmas.SizeLemmas.{mapped_state_is_well_formed}
use Rattle.sym_matching.proofs.renaming.laws.mapped_is_well_formed.Goals as goal

pub returns-clause-sizes : goal.returns-clause-sizes
returns-clause-sizes c = mapped_is_within_sizes

pub returns-clause-heap : goal.returns-clause-heap
returns-clause-heap c = mapped_heap_is_well_formed

pub returns-clause-state : goal.returns-clause-state
returns-clause-state c = mapped_state_is_well_formed

pub returns-clause-post : goal.returns-clause-post
returns-clause-post c = mapped_post_is_well_formed
