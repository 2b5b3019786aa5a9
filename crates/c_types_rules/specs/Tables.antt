-- What the structures, the names of types and the procedures of a program are. All files form one program: each name may be
-- used in any file, before or behind its definition.
use Rattle.std.specs.Prelude.{ℕ, zero, suc, Bool, true, false, Option, Some, None, List, [], ◌∷◌, ◌++◌, map, if◌then◌else◌}
use Rattle.std.specs.Str.{bytes_eq}
use Rattle.shape_data.specs.declared.program.Ty.TheVariants.{Int, Ptr, Void}
use Rattle.c_grammar.specs.declared.tokens.places.Refusal.{Refusal}
use Rattle.c_grammar.specs.Trees.{Name, Specifier, Declarator, Fields, Param, Params, Head, Item, File}
use Rattle.c_types_rules.specs.Types.{Kind, unless, UNDECLARED}

-- a structure that is defined
pub record Structure : Type 0 where
  pub tag : List ℕ
  pub lines : List Fields

-- a name that `typedef` gives to a structure
pub record Alias : Type 0 where
  pub name : List ℕ
  pub tag : List ℕ

-- a procedure that is declared, and whether it is defined there
pub record Procedure : Type 0 where
  pub head : Head
  pub defines : Bool

-- in the order of the text, what is repeated included
pub record Tables : Type 0 where
  pub structures : List Structure
  pub aliases : List Alias
  pub procedures : List Procedure

abbrev pub no_tables : Tables
no_tables = record { structures = []; aliases = []; procedures = [] }

-- a structure under `typedef` that has no tag has the name of the type as its tag
abbrev pub tag_or : Option Name → Name → Name
tag_or None alias = alias
tag_or (Some tag) alias = tag

abbrev pub structure : Name → List Fields → List Structure
structure tag lines = record { tag = tag.text; lines = lines } ∷ []

abbrev pub alias_of : Name → Name → List Alias
alias_of n tag = record { name = n.text; tag = tag.text } ∷ []

abbrev pub procedure : Head → Bool → List Procedure
procedure head defines = record { head = head; defines = defines } ∷ []

-- what an item declares
abbrev pub declares : Item → Tables
declares (Item.StructItem place tag lines) = record { structures = structure tag lines; aliases = []; procedures = [] }
declares (Item.TypedefStruct place tag lines alias) = record {
  structures = structure (tag_or tag alias) lines;
  aliases = alias_of alias (tag_or tag alias);
  procedures = [];
}
declares (Item.TypedefAlias place tag alias) = record { structures = []; aliases = alias_of alias tag; procedures = [] }
declares (Item.Prototype head) = record { structures = []; aliases = []; procedures = procedure head false }
declares (Item.Definition head place body end) = record { structures = []; aliases = []; procedures = procedure head true }

-- the one tables behind the other
abbrev pub joined : Tables → Tables → Tables
joined one other = record {
  structures = one.structures ++ other.structures;
  aliases = one.aliases ++ other.aliases;
  procedures = one.procedures ++ other.procedures;
}

-- what items declare
abbrev pub declared_by : List Item → Tables
declared_by [] = no_tables
declared_by (first ∷ others) = joined (declares first) (declared_by others)

-- the items of files, one file behind another
abbrev pub items_of : List File → List Item
items_of [] = []
items_of (first ∷ others) = first.items ++ items_of others

-- the first of its name

abbrev pub structure_in : List Structure → List ℕ → Option Structure
structure_in [] tag = None
structure_in (first ∷ others) tag = if bytes_eq first.tag tag then Some first else structure_in others tag

abbrev pub alias_in : List Alias → List ℕ → Option Alias
alias_in [] n = None
alias_in (first ∷ others) n = if bytes_eq first.name n then Some first else alias_in others n

abbrev pub procedure_in : List Procedure → List ℕ → Option Procedure
procedure_in [] n = None
procedure_in (first ∷ others) n = if bytes_eq first.head.declarator.name.text n then Some first else procedure_in others n

abbrev pub is_defined : Tables → List ℕ → Bool
is_defined tables tag = elim (structure_in tables.structures tag) [ None ↦ false | Some found ↦ true ]

-- a pointer to the structure of the tag; a type that is not declared is not known
abbrev pub pointer_to : Tables → List ℕ → Kind
pointer_to tables tag = if is_defined tables tag then Some (Ptr tag) else None

abbrev pub pointer_by : Tables → Option Alias → Kind
pointer_by tables None = None
pointer_by tables (Some alias) = pointer_to tables alias.tag

-- a pointer to the structure that the specifier names, where that is defined
abbrev pub pointer_of : Tables → Specifier → Kind
pointer_of tables (Specifier.Int place) = None
pointer_of tables (Specifier.Void place) = None
pointer_of tables (Specifier.Struct place tag) = pointer_to tables tag.text
pointer_of tables (Specifier.Alias n) = pointer_by tables (alias_in tables.aliases n.text)

abbrev pub is_alias : Tables → List ℕ → Bool
is_alias tables n = elim (alias_in tables.aliases n) [ None ↦ false | Some found ↦ true ]

-- the name in a specifier is declared: a tag that is defined, or a name of a type (that its structure is defined is asked
-- where the name is given)
abbrev pub specifier_refusals : Tables → Specifier → List Refusal
specifier_refusals tables (Specifier.Int place) = []
specifier_refusals tables (Specifier.Void place) = []
specifier_refusals tables (Specifier.Struct place tag) = unless (is_defined tables tag.text) tag.place UNDECLARED
specifier_refusals tables (Specifier.Alias n) = unless (is_alias tables n.text) n.place UNDECLARED

-- the specifier names a structure
abbrev pub names_structure : Specifier → Bool
names_structure (Specifier.Struct place tag) = true
names_structure (Specifier.Alias n) = true
names_structure _ = false

-- the type that a specifier and stars give to a variable, a parameter or a field, of those types that `may_be_object`
-- allows
abbrev pub object_kind : Tables → Specifier → ℕ → Kind
object_kind tables (Specifier.Int place) zero = Some Int
object_kind tables specifier (suc zero) = pointer_of tables specifier
object_kind tables _ _ = None

-- the subset has objects of this type: an int, or a pointer to a structure
abbrev pub may_be_object : Specifier → ℕ → Bool
may_be_object (Specifier.Int place) zero = true
may_be_object specifier (suc zero) = names_structure specifier
may_be_object _ _ = false

-- the type that a specifier and stars give to a result
abbrev pub result_kind : Tables → Specifier → ℕ → Kind
result_kind tables (Specifier.Void place) zero = Some Void
result_kind tables specifier stars = object_kind tables specifier stars

abbrev pub may_be_result : Specifier → ℕ → Bool
may_be_result (Specifier.Void place) zero = true
may_be_result specifier stars = may_be_object specifier stars

-- a field and its type
pub record FieldKind : Type 0 where
  pub name : Name
  pub kind : Kind

abbrev pub field_kind : Tables → Specifier → Declarator → FieldKind
field_kind tables specifier decl = record { name = decl.name; kind = object_kind tables specifier decl.stars }

-- the fields of a structure
abbrev pub field_kinds : Tables → List Fields → List FieldKind
field_kinds tables [] = []
field_kinds tables (line ∷ lines) = map (field_kind tables line.specifier) (line.first ∷ line.others) ++ field_kinds tables lines

abbrev pub field_in : List FieldKind → List ℕ → Option FieldKind
field_in [] n = None
field_in (first ∷ others) n = if bytes_eq first.name.text n then Some first else field_in others n

abbrev pub field_by : Tables → Option Structure → List ℕ → Option FieldKind
field_by tables None n = None
field_by tables (Some found) n = field_in (field_kinds tables found.lines) n

-- the field of a structure, if it has one of this name
abbrev pub field_of : Tables → List ℕ → List ℕ → Option FieldKind
field_of tables tag n = field_by tables (structure_in tables.structures tag) n

-- the place of the first of these fields that has the name, or how many there are
abbrev pub place_in : List FieldKind → List ℕ → ℕ
place_in [] n = 0
place_in (first ∷ others) n = if bytes_eq first.name.text n then 0 else suc (place_in others n)

-- the place of a field in the structure that was found
abbrev pub place_by : Tables → Option Structure → List ℕ → ℕ
place_by tables None n = 0
place_by tables (Some found) n = place_in (field_kinds tables found.lines) n

-- the place of a field among those of its structure, counted from 0
abbrev pub field_place : Tables → List ℕ → List ℕ → ℕ
field_place tables tag n = place_by tables (structure_in tables.structures tag) n

-- the types of parameters
abbrev pub param_kind : Tables → Param → Kind
param_kind tables p = object_kind tables p.specifier p.stars

abbrev pub param_kinds : Tables → Params → List Kind
param_kinds tables (Params.Listed first others) = map (param_kind tables) (first ∷ others)
param_kinds tables _ = []

abbrev pub kind_of_result : Tables → Head → Kind
kind_of_result tables head = result_kind tables head.specifier head.declarator.stars
