use Rattle.std.proofs.Common.{ℕ, Option, List, option_map, slice_get, sym, ap, ◌∙◌}
use Rattle.std.specs.Borrow.{Bor}
use Rattle.std.specs.Option.{option_copied}
use Rattle.c_types_rules.specs.Tables.{structure_in}
use Rattle.c_types_names.specs.StructFields.{DeclaredTree, kind_of_declared}
use Rattle.c_types_names.proofs.Fields.{place_in_table, field_in_table, place_by_name, field_by_name}
use Rattle.c_types_names.proofs.objects.placed_field.Goals as goal

pub returns-in-None-clause-place : goal.returns-in-None-clause-place
returns-in-None-clause-place c =
    let tables = c.args.tables.now in
    let name = c.args.name.now in
    ap (λ (o : Option (Bor (List DeclaredTree))). place_in_table (option_copied o) name) (sym c.in-None.is)
    ∙ ap (λ (fields : Option (List DeclaredTree)). place_in_table fields name) c.fields.ensures
    ∙ place_by_name tables (structure_in tables.structures c.args.tag.now) name

pub returns-in-None-clause-field : goal.returns-in-None-clause-field
returns-in-None-clause-field c =
    let tables = c.args.tables.now in
    let name = c.args.name.now in
    ap (λ (o : Option (Bor (List DeclaredTree))). field_in_table tables (option_copied o) name) (sym c.in-None.is)
    ∙ ap (λ (fields : Option (List DeclaredTree)). field_in_table tables fields name) c.fields.ensures
    ∙ field_by_name tables (structure_in tables.structures c.args.tag.now) name

pub returns-in-Some-clause-place : goal.returns-in-Some-clause-place
returns-in-Some-clause-place c =
    let tables = c.args.tables.now in
    let name = c.args.name.now in
    c.place-place.ensures
    ∙ ap (λ (o : Option (Bor (List DeclaredTree))). place_in_table (option_copied o) name) (sym c.in-Some.is)
    ∙ ap (λ (fields : Option (List DeclaredTree)). place_in_table fields name) c.fields.ensures
    ∙ place_by_name tables (structure_in tables.structures c.args.tag.now) name

pub returns-in-Some-clause-field : goal.returns-in-Some-clause-field
returns-in-Some-clause-field c =
    let tables = c.args.tables.now in
    let name = c.args.name.now in
    c.field_at-field.ensures
    ∙ ap (λ (place : ℕ). option_map (kind_of_declared tables) (slice_get c.in-Some.fields.now place)) c.place-place.ensures
    ∙ ap (λ (o : Option (Bor (List DeclaredTree))). field_in_table tables (option_copied o) name) (sym c.in-Some.is)
    ∙ ap (λ (fields : Option (List DeclaredTree)). field_in_table tables fields name) c.fields.ensures
    ∙ field_by_name tables (structure_in tables.structures c.args.tag.now) name
