use Rattle.sym_parts.proofs.LawsLemmas.JunkLemmas.{junk_forgets}
use Rattle.sym_parts.proofs.laws.junk.junk_forgets.Goals as goal

pub returns : goal.returns
returns c = junk_forgets
