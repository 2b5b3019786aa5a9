use Rattle.sym_abstract.proofs.PairTurns.{beside-facts}
use Rattle.sym_abstract.proofs.pairs.times_beside_facts.Goals as goal

pub returns : goal.returns
returns c =
    beside-facts c.args.pair.now _ _ (rw (c.as_slice.ensures, c.as_slice-2.ensures) at c.in_ok-counts.ensures)
    (rw c.as_slice-3.ensures at c.in_ok-count_atoms.ensures)
