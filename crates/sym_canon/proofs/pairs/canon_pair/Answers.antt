-- The parts are those of the definition.
use Rattle.sym_canon.proofs.pairs.canon_pair.Goals as goal

pub returns : goal.returns
returns c =
    rw (c.in_ok-numbers.ensures.first, c.in_ok-numbers.ensures.seen, c.in_ok-missing.ensures, c.in_ok-alone.ensures, c.in_ok-state.ensures)
    at c.pair_numbered.ensures
