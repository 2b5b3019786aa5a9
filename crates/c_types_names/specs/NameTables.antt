-- What the tables have of a name.
use Rattle.std.specs.Prelude.{Bool, Option, None, Some, List, if◌then◌else◌}
use Rattle.c_types_names.specs.declared.declared.Structure.{Structure}
use Rattle.c_types_names.specs.declared.declared.Procedure.{Procedure}
use Rattle.c_types_names.specs.declared.name_tables.FirstStructure.{FirstStructure}
use Rattle.c_types_names.specs.declared.name_tables.FirstProcedures.{FirstProcedures}
use Rattle.c_types_names.specs.StructFields.{DeclaredTree}

abbrev pub the_structure : FirstStructure → Structure
the_structure found = found.structure

abbrev pub its_fields : FirstStructure → List DeclaredTree
its_fields found = found.fields

abbrev pub first_procedure : FirstProcedures → Procedure
first_procedure found = found.first

-- the first definition, or the first declaration that is none
abbrev pub procedure_that : Bool → Option FirstProcedures → Option Procedure
procedure_that defines None = None
procedure_that defines (Some found) = if defines then found.defined else found.declared
