use Rattle.std.proofs.Common.{◌≡◌, Option, option_map, sym, ap, ◌∙◌}
use Rattle.std.specs.Borrow.{Bor}
use Rattle.std.specs.Option.{option_copied}
use Rattle.c_types_rules.specs.Tables.{structure_in}
use Rattle.c_types_names.specs.declared.name_tables.FirstStructure.{FirstStructure}
use Rattle.c_types_names.specs.NameMap.{named}
use Rattle.c_types_names.specs.NameTables.{the_structure}
use Rattle.c_types_names.specs.Seen.{structure_seen}
use Rattle.c_types_names.proofs.name_tables.Structures.first.Goals as goal

pub returns-in-Some : goal.returns-in-Some
returns-in-Some c =
    let first = c.self.inside.first in
    let tag = c.args.tag.now in
    let found : option_copied c.get.result ≡ named first tag = c.get.ensures in
    ap (λ (o : Option (Bor FirstStructure)). option_map structure_seen (option_map the_structure (option_copied o))) (sym c.in-Some.is)
    ∙ ap (λ o. option_map structure_seen (option_map the_structure o)) found
    ∙ c.self.invariant.0 tag
    ∙ ap (λ xs. structure_in xs tag) c.self.view_is
