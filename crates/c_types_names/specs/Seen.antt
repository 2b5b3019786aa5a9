-- What the values of the crate stand for among the typing rules.
use Rattle.std.specs.Prelude.{Option, option_map, List, map, reverse}
use Rattle.shape_data.specs.declared.program.Ty.{Ty}
use Rattle.shape_data.specs.declared.program.Ty.TheVariants as ty
use Rattle.c_types_names.specs.declared.kinds.CType.{CType}
use Rattle.c_types_names.specs.declared.kinds.CType.TheVariants.{Int, Pointer, Void}
use Rattle.c_types_names.specs.declared.declared.Structure.{Structure}
use Rattle.c_types_names.specs.declared.declared.Alias.{Alias}
use Rattle.c_types_names.specs.declared.declared.Procedure.{Procedure}
use Rattle.c_tree.specs.Syntax.{ident_tree, fields_tree, head_tree}
use Rattle.c_types_rules.specs.Types.{Kind}
use Rattle.c_types_names.specs.declared.variables.Variable.{Variable}
use Rattle.c_types_names.specs.declared.objects.FieldKind.{FieldKind}
use Rattle.c_types_rules.specs.Tables as tables
use Rattle.c_types_rules.specs.Scopes as scopes

abbrev pub type_seen : CType → Ty
type_seen Int = ty.Int
type_seen (Pointer tag) = ty.Ptr tag.now
type_seen Void = ty.Void

abbrev pub kind_seen : Option CType → Kind
kind_seen kind = option_map type_seen kind

abbrev pub structure_seen : Structure → tables.Structure
structure_seen one = record { tag = one.tag.now; lines = map fields_tree one.lines.now.items }

abbrev pub alias_seen : Alias → tables.Alias
alias_seen one = record { name = one.name.now; tag = one.tag.now }

unfoldable pub procedure_seen : Procedure → tables.Procedure
procedure_seen one = record { head = head_tree one.head.now; defines = one.defines }

abbrev pub variable_seen : Variable → scopes.Variable
variable_seen one = record { name = one.name.now; kind = kind_seen one.kind }

-- the last one first
unfoldable pub stacked : List Variable → List scopes.Variable
stacked variables = reverse (map variable_seen variables)

unfoldable pub field_seen : FieldKind → tables.FieldKind
field_seen one = record { name = ident_tree one.name.now; kind = kind_seen one.kind }
