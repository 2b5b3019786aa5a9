use Rattle.std.proofs.Common.{refl}
use Rattle.sym_matching.proofs.RenamingLemmas.CoveringLemmas.{state_apart_meets}
use Rattle.sym_matching.proofs.renaming.laws.state_apart_means_the_same.Goals as goal

pub returns-clause-meaning : goal.returns-clause-meaning
returns-clause-meaning c = state_apart_meets

pub returns-clause-coverings : goal.returns-clause-coverings
returns-clause-coverings c = λ a b. refl
