use Rattle.sym_matching.proofs.RenamingLemmas.NumberLemmas.{numbers_are_apart}
use Rattle.sym_matching.proofs.renaming.laws.numbers_are_apart.Goals as goal

pub returns : goal.returns
returns c = numbers_are_apart
