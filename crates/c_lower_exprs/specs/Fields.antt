-- Which field of the definitions each value of the crate stands for.
use Rattle.c_lower_rules.specs.Expressions as expressions
use Rattle.c_types_names.specs.Seen.{type_seen}
use Rattle.c_lower_exprs.specs.declared.members.Field.{Field}

-- a field
abbrev pub field_found : Field → expressions.Field
field_found field = record { tag = field.tag; place = field.place; kind = type_seen field.kind }
