use Rattle.sym_abstract.proofs.Adding.{adds-both, counts-all, empty-counts}
use Rattle.sym_abstract.proofs.occurrences.times_of_both.Goals as goal

pub returns : goal.returns
returns c =
    counts-all c.new-counts.result _ _ (empty-counts c.new-counts.result c.new-counts.ensures.empty)
    (adds-both _ _ _ _ _ c.in_ok-count_exps.ensures c.in_ok-count_atoms.ensures)
