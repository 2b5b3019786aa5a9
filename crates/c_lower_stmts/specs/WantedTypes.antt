-- The type that is wanted of a value.
use Rattle.shape_data.specs.declared.program.Ty.{Ty}
use Rattle.c_types_rules.specs.Expressions.{kind_of}
use Rattle.c_types_rules.specs.Programs.{known}
use Rattle.c_tree.specs.Syntax.{expr_tree}
use Rattle.c_types_names.specs.Seen.{type_seen}
use Rattle.c_lower_rules.specs.Contexts.{Context}
use Rattle.c_lower_stmts.specs.declared.wanted_values.WantedType.{WantedType}
use Rattle.c_lower_stmts.specs.declared.wanted_values.WantedType.TheVariants.{Kind, TypeOf}

-- the type that is given, or that of the expression, which is int where the expression's is not known
abbrev pub wanted_kind : Context → WantedType → Ty
wanted_kind c (Kind kind) = type_seen kind
wanted_kind c (TypeOf expr) = known (kind_of c.env (expr_tree expr.now))
