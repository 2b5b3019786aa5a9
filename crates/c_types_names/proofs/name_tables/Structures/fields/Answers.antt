use Rattle.std.proofs.Common.{◌≡◌, Option, option_map, sym, ap, ◌∙◌}
use Rattle.std.specs.Borrow.{Bor}
use Rattle.std.specs.Option.{option_copied}
use Rattle.c_types_rules.specs.Tables.{structure_in}
use Rattle.c_types_names.specs.declared.name_tables.FirstStructure.{FirstStructure}
use Rattle.c_types_names.specs.NameMap.{named}
use Rattle.c_types_names.specs.NameTables.{its_fields}
use Rattle.c_types_names.specs.StructFields.{fields_of}
use Rattle.c_types_names.proofs.name_tables.Structures.fields.Goals as goal

pub returns-in-Some : goal.returns-in-Some
returns-in-Some c =
    let first = c.self.inside.first in
    let tag = c.args.tag.now in
    let found : option_copied c.get.result ≡ named first tag = c.get.ensures in
    ap (λ (o : Option (Bor FirstStructure)). option_map its_fields (option_copied o)) (sym c.in-Some.is)
    ∙ ap (option_map its_fields) found
    ∙ c.self.invariant.1 tag
    ∙ ap (λ xs. option_map fields_of (structure_in xs tag)) c.self.view_is
