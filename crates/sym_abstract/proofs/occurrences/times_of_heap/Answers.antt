use Rattle.abstraction_laws.specs.Occurrences.{exps_of_atoms, exps_of_facts}
use Rattle.sym_abstract.proofs.Adding.{adds-both, counts-all, empty-counts}
use Rattle.sym_abstract.proofs.occurrences.times_of_heap.Goals as goal

pub returns : goal.returns
returns c =
    counts-all c.new-counts.result _ _ (empty-counts c.new-counts.result c.new-counts.ensures.empty)
    (adds-both _ _ _ (exps_of_atoms c.args.heap.now.spatial) (exps_of_facts c.args.heap.now.pure)
    (rw c.as_slice.ensures at c.in_ok-count_atoms.ensures) (rw c.as_slice-2.ensures at c.in_ok-count_facts.ensures))
