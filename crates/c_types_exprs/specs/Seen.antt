-- What the values of the crate stand for among the typing rules.
use Rattle.c_types_rules.specs.Expressions as expressions
use Rattle.c_types_names.specs.Seen.{kind_seen}
use Rattle.c_types_exprs.specs.declared.value_types.Given.{Given}
use Rattle.c_types_exprs.specs.declared.value_types.Given.TheVariants as given

abbrev pub given_seen : Given → expressions.Given
given_seen (given.OfKind kind) = expressions.Given.OfKind (kind_seen kind)
given_seen given.AnyPointer = expressions.Given.AnyPointer
