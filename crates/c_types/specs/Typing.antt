-- What the answers of the type checker mean.
use Rattle.std.specs.Prelude.{◌≡◌, List, map}
use Rattle.shape_data.specs.declared.program.StructDef.{StructDef}
use Rattle.c_grammar.specs.Trees.{File}
use Rattle.c_tree.specs.declared.items.Unit.{Unit}
use Rattle.c_tree.specs.Syntax.{unit_tree}
use Rattle.c_types_rules.specs.Tables.{Tables}
use Rattle.c_types_rules.specs.Programs.{IsWellTyped, tables_of, structs_of}

abbrev pub files_of : List Unit → List File
files_of units = map unit_tree units

-- the program is well typed, and these are what is declared in it and its structures
pub record IsTyped (files : List File) (named : Tables) (defs : List StructDef) : Type 0 where
  pub well_typed : IsWellTyped files
  pub tables : named ≡ tables_of files
  pub structs : defs ≡ structs_of files
