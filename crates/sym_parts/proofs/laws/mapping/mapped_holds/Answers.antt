use Rattle.sym_parts.proofs.LawsLemmas.MappedLemmas.{mapped_holds}
use Rattle.sym_parts.proofs.laws.mapping.mapped_holds.Goals as goal

pub returns : goal.returns
returns c = mapped_holds
