use Rattle.sym_parts.proofs.LawsLemmas.JunkLemmas.{one_junk_is_enough}
use Rattle.sym_parts.proofs.laws.junk.one_junk_is_enough.Goals as goal

pub returns : goal.returns
returns c = one_junk_is_enough
