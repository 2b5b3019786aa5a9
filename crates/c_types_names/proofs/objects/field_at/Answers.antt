use Rattle.std.proofs.Common.{Option, Some, option_map, sym, ap, ◌∙◌}
use Rattle.c_types_names.specs.declared.struct_fields.DeclaredField.{DeclaredField}
use Rattle.c_types_names.specs.StructFields.{declared_seen, kind_of_declared}
use Rattle.c_types_names.proofs.objects.field_at.Goals as goal

pub returns-in-None : goal.returns-in-None
returns-in-None c =
    let kind = kind_of_declared c.args.tables.now in
    ap (λ (o : Option DeclaredField). option_map kind (option_map declared_seen o)) (sym c.in-None.is)
    ∙ ap (option_map kind) c.at.ensures

pub returns-in-Some : goal.returns-in-Some
returns-in-Some c =
    let kind = kind_of_declared c.args.tables.now in
    ap Some c.field_kind.ensures
    ∙ ap (λ (o : Option DeclaredField). option_map kind (option_map declared_seen o)) (sym c.in-Some.is)
    ∙ ap (option_map kind) c.at.ensures
