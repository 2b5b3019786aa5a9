use Rattle.key_laws.proofs.Keeping.{used_contained}
use Rattle.key_laws.proofs.used_are_contained.Goals as goal

pub returns : goal.returns
returns c = λ structs flows callees are. used_contained structs are flows callees
