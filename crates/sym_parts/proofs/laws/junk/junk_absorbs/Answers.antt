use Rattle.sym_parts.proofs.LawsLemmas.JunkLemmas.{junk_absorbs}
use Rattle.sym_parts.proofs.laws.junk.junk_absorbs.Goals as goal

pub returns : goal.returns
returns c = junk_absorbs
