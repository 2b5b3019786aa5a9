use Rattle.std.proofs.Common.{refl}
use Rattle.sym_canon.specs.Placing.{exps_of}
use Rattle.abstraction_laws.specs.Occurrences.{exps_of_atoms}
use Rattle.sym_abstract.proofs.Adding.{counted-item}
use Rattle.sym_abstract.proofs.occurrences.count_atoms.Goals as goal

pub loop-atom-preserved : goal.loop-atom-preserved
loop-atom-preserved c =
    counted-item exps_of exps_of_atoms
    (λ x xs. refl) c.args.counts.now c.loop-atom.counts c.count_atom.new.counts c.args.atoms.now c.loop-atom.atom-index c.atom-item.result
    c.loop-atom-test.true c.atom-item.is c.loop-atom.invariant c.in_ok-count_atom.ensures
