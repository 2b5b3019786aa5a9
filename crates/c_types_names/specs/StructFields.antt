-- The fields of structures as they are declared.
use Rattle.std.specs.Prelude.{ℕ, suc, Option, Some, None, List, [], ◌∷◌, ◌++◌, map, option_map, if◌then◌else◌}
use Rattle.std.specs.Str.{bytes_eq}
use Rattle.c_grammar.specs.Trees.{Specifier, Declarator, Fields}
use Rattle.c_types_rules.specs.Tables.{Tables, Structure, FieldKind, field_kind}
use Rattle.c_tree.specs.Syntax.{specifier_tree, declarator_tree}
use Rattle.c_types_names.specs.declared.struct_fields.DeclaredField.{DeclaredField}

-- a field: the specifier of its declaration, and its declarator
pub record DeclaredTree : Type 0 where
  pub specifier : Specifier
  pub declarator : Declarator

abbrev pub declared_by_one : Specifier → Declarator → DeclaredTree
declared_by_one specifier declarator = record { specifier = specifier; declarator = declarator }

abbrev pub declared_seen : DeclaredField → DeclaredTree
declared_seen one = declared_by_one (specifier_tree one.specifier.now) (declarator_tree one.declarator.now)

-- the fields in a declaration
abbrev pub declared_in_line : Fields → List DeclaredTree
declared_in_line line = map (declared_by_one line.specifier) (line.first ∷ line.others)

-- the fields in declarations
abbrev pub declared_fields : List Fields → List DeclaredTree
declared_fields [] = []
declared_fields (line ∷ lines) = declared_in_line line ++ declared_fields lines

-- the fields of a structure
abbrev pub fields_of : Structure → List DeclaredTree
fields_of one = declared_fields one.lines

-- the place of the first field of the name, if there is one
abbrev pub first_place : List DeclaredTree → List ℕ → Option ℕ
first_place [] n = None
first_place (first ∷ others) n = if bytes_eq first.declarator.name.text n then Some 0 else option_map suc (first_place others n)

-- the place of the first field of the name, or how many fields there are
abbrev pub place_named : List DeclaredTree → List ℕ → ℕ
place_named [] n = 0
place_named (first ∷ others) n = if bytes_eq first.declarator.name.text n then 0 else suc (place_named others n)

-- the field with its type
abbrev pub kind_of_declared : Tables → DeclaredTree → FieldKind
kind_of_declared tables one = field_kind tables one.specifier one.declarator
