use Rattle.sym_abstract.proofs.pairs.find_pair_join.Goals as goal

pub returns : goal.returns
returns c = rw c.as_slice.ensures at c.find_join.ensures
