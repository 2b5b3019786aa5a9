use Rattle.sym_abstract.proofs.Adding.{counts-all, empty-counts}
use Rattle.sym_abstract.proofs.occurrences.times_of_atoms.Goals as goal

pub returns : goal.returns
returns c = counts-all c.new-counts.result _ _ (empty-counts c.new-counts.result c.new-counts.ensures.empty) c.in_ok-count_atoms.ensures
