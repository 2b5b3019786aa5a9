use Rattle.sym_canon.proofs.PairLaws.{canon_pair_keeps_meaning}
use Rattle.sym_canon.proofs.laws.canon_pair_keeps_meaning.Goals as goal

pub returns : goal.returns
returns c = canon_pair_keeps_meaning
