use Rattle.sym_pure.proofs.MeaningLaws.{normal_keeps_meaning, normal_holds_alike}
use Rattle.sym_pure.proofs.laws.normal_keeps_meaning.Goals as goal

pub returns-clause-meets : goal.returns-clause-meets
returns-clause-meets c = normal_keeps_meaning

pub returns-clause-holds : goal.returns-clause-holds
returns-clause-holds c = normal_holds_alike
