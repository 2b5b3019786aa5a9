use Rattle.std.proofs.Common.{Option, Some, option_map, sym, ap, ◌∙◌}
use Rattle.c_types_rules.specs.Tables.{field_of}
use Rattle.c_types_rules.specs.Expressions.{kind_of_field, kind_of_member}
use Rattle.c_types_names.specs.declared.kinds.CType.{CType}
use Rattle.c_types_names.specs.declared.objects.FieldKind.{FieldKind}
use Rattle.c_types_names.specs.Seen.{type_seen, field_seen}
use Rattle.c_lower_rules.specs.Contexts.{tag_of}
use Rattle.c_lower_exprs.proofs.members.kind_behind.Goals as goal

pub returns-in-Some : goal.returns-in-Some
unfolding field_seen
returns-in-Some c = λ tables field is.
    ap kind_of_field
    (ap (λ (o : Option FieldKind). option_map field_seen o) (sym c.in-Some.is) ∙ is
    ∙ ap (λ (p : CType). field_of tables (tag_of (type_seen p)) field.text) c.in-Pointer.is)
    ∙ ap (λ (p : CType). kind_of_member tables (Some (type_seen p)) field) (sym c.in-Pointer.is)
