use Rattle.std.proofs.Common.{◌≡◌, is_some, ◌∙◌, rules}
use Rattle.c_types_names.specs.Seen.{procedure_seen}
use Rattle.c_types.proofs.FoundSome.{found_some}
use Rattle.c_types.proofs.structures.is_procedure.Goals as goal

pub returns : goal.returns
returns c =
    let found : c.is_some.result ≡ is_some c.procedure.result = search rules in
    found ∙ found_some procedure_seen c.procedure.result _ c.procedure.ensures
