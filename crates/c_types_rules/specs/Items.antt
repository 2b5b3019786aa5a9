-- The typing rules of items.
use Rattle.std.specs.Prelude.{Bool, true, false, ◌&&◌, not, Option, Some, None, List, [], ◌∷◌, ◌++◌, map, if◌then◌else◌}
use Rattle.std.specs.Str.{bytes_eq}
use Rattle.c_grammar.specs.declared.tokens.places.Refusal.{Refusal}
use Rattle.c_grammar.specs.Trees.{Name, Specifier, Declarator, Fields, Param, Params, Head, Stmts, Item}
use Rattle.c_grammar.specs.Readers.{place_of_specifier}
use Rattle.c_grammar.specs.FirstPlaces.{place_of_head}
use Rattle.c_types_rules.specs.Types.{Kind, may_agree, unless, UNDECLARED, CLASH, SECOND, DIFFERS, LEFT_OUT}
use Rattle.c_types_rules.specs.Tables.{Structure, Alias, Procedure, Tables, FieldKind, tag_or, structure_in, alias_in, procedure_in}
use Rattle.c_types_rules.specs.Tables.{is_defined, is_alias, specifier_refusals, may_be_object, may_be_result, field_kinds, param_kind}
use Rattle.c_types_rules.specs.Tables.{param_kinds, kind_of_result}
use Rattle.c_types_rules.specs.Scopes.{Variable}
use Rattle.c_types_rules.specs.Statements.{Found, refuses, ◌⊹◌, stmts}

abbrev pub is_listed : List Name → Name → Bool
is_listed [] n = false
is_listed (first ∷ others) n = if bytes_eq first.text n.text then true else is_listed others n

-- each name is none of those before it
abbrev pub twice : List Name → List Name → List Refusal
twice before [] = []
twice before (first ∷ others) = unless (not (is_listed before first)) first.place SECOND ++ twice (first ∷ before) others

-- STRUCTURES (C11 6.7.2.1)

abbrev pub declarator_refusals : Specifier → List Declarator → List Refusal
declarator_refusals specifier [] = []
declarator_refusals specifier (first ∷ others) =
    unless (may_be_object specifier first.stars) (place_of_specifier specifier) LEFT_OUT ++ declarator_refusals specifier others

-- the fields are ints and pointers to structures
abbrev pub lines_refusals : Tables → List Fields → List Refusal
lines_refusals tables [] = []
lines_refusals tables (line ∷ lines) =
    specifier_refusals tables line.specifier ++ declarator_refusals line.specifier (line.first ∷ line.others) ++ lines_refusals tables lines

abbrev pub field_names : List Fields → List Name
field_names [] = []
field_names (line ∷ lines) = map (λ (decl : Declarator). decl.name) (line.first ∷ line.others) ++ field_names lines

-- the same names, in one order, and types that may agree
abbrev pub same_fields : List FieldKind → List FieldKind → Bool
same_fields [] [] = true
same_fields (one ∷ ones) (other ∷ others) =
    (bytes_eq one.name.text other.name.text && may_agree one.kind other.kind) && same_fields ones others
same_fields _ _ = false

-- a structure that was defined before has the same fields
abbrev pub repeated_refusals : Tables → Option Structure → Name → List Fields → List Refusal
repeated_refusals tables None tag lines = []
repeated_refusals tables (Some first) tag lines =
    unless (same_fields (field_kinds tables first.lines) (field_kinds tables lines)) tag.place DIFFERS

abbrev pub structure_refusals : Tables → Tables → Name → List Fields → List Refusal
structure_refusals tables before tag lines =
    lines_refusals tables lines ++ twice [] (field_names lines)
    ++ repeated_refusals tables (structure_in before.structures tag.text) tag lines

-- NAMES OF TYPES (C11 6.7.8)

-- a name of a type that was given before is the same structure's
abbrev pub same_alias : Option Alias → Name → Bool
same_alias None tag = true
same_alias (Some first) tag = bytes_eq first.tag tag.text

abbrev pub is_procedure : Tables → Name → Bool
is_procedure tables n = elim (procedure_in tables.procedures n.text) [ None ↦ false | Some found ↦ true ]

-- a name of a type is no procedure's, and one structure's
abbrev pub alias_refusals : Tables → Name → Name → List Refusal
alias_refusals before alias tag =
    unless (same_alias (alias_in before.aliases alias.text) tag && not (is_procedure before alias)) alias.place SECOND

-- PROCEDURES (C11 6.7.6.3, 6.9.1)

abbrev pub listed : Params → List Param
listed (Params.Listed first others) = first ∷ others
listed _ = []

abbrev pub with_name : Option Name → List Name → List Name
with_name None names = names
with_name (Some n) names = n ∷ names

-- a name of a type that is also that of a parameter before, which hides it (C11 6.2.1)
abbrev pub is_hidden_by : List Name → Specifier → Bool
is_hidden_by before (Specifier.Alias n) = is_listed before n
is_hidden_by before _ = false

-- a parameter, behind those of these names: an int or a pointer to a structure
abbrev pub param_refusals : Tables → List Name → Param → List Refusal
param_refusals tables before p =
    specifier_refusals tables p.specifier ++ unless (not (is_hidden_by before p.specifier)) (place_of_specifier p.specifier) LEFT_OUT
    ++ unless (may_be_object p.specifier p.stars) (place_of_specifier p.specifier) LEFT_OUT

abbrev pub each_param_refusals : Tables → List Name → List Param → List Refusal
each_param_refusals tables before [] = []
each_param_refusals tables before (first ∷ others) =
    param_refusals tables before first ++ each_param_refusals tables (with_name first.name before) others

-- the names of those that have one
abbrev pub param_names : List Param → List Name
param_names [] = []
param_names (first ∷ others) = with_name first.name (param_names others)

abbrev pub head_refusals : Tables → Head → List Refusal
head_refusals tables head =
    specifier_refusals tables head.specifier ++ unless (may_be_result head.specifier head.declarator.stars) (place_of_head head) LEFT_OUT
    ++ each_param_refusals tables [] (listed head.params) ++ twice [] (param_names (listed head.params))

abbrev pub same_kinds : List Kind → List Kind → Bool
same_kinds [] [] = true
same_kinds (one ∷ ones) (other ∷ others) = may_agree one other && same_kinds ones others
same_kinds _ _ = false

-- a procedure that was declared before has the same types (C11 6.7, 6.7.6.3)
abbrev pub same_head : Tables → Option Procedure → Head → Bool
same_head tables None head = true
same_head tables (Some first) head =
    may_agree (kind_of_result tables first.head) (kind_of_result tables head)
    && same_kinds (param_kinds tables first.head.params) (param_kinds tables head.params)

-- a declaration of a procedure: its types are fit, its name is no type's, and of those procedures that were declared before the
-- first one of its name has the same types. (Each other of that name was compared with the first too.)
abbrev pub procedure_refusals : Tables → Tables → List Procedure → Head → List Refusal
procedure_refusals tables before procedures head =
    head_refusals tables head
    ++ unless (not (is_alias before head.declarator.name.text)) head.declarator.name.place SECOND
    ++ unless (same_head tables (procedure_in procedures head.declarator.name.text) head) (place_of_head head) CLASH

abbrev pub same_bool : Bool → Bool → Bool
same_bool true other = other
same_bool false other = not other

-- the definitions among procedures, or the others
abbrev pub definitions : Bool → List Procedure → List Procedure
definitions wanted [] = []
definitions wanted (first ∷ others) =
    if same_bool first.defines wanted then first ∷ definitions wanted others else definitions wanted others

-- the procedure is defined before
abbrev pub is_defined_before : Tables → Head → Bool
is_defined_before before head =
    elim (procedure_in (definitions true before.procedures) head.declarator.name.text) [ None ↦ false | Some found ↦ true ]

abbrev pub has_name : Option Name → Bool
has_name None = false
has_name (Some n) = true

-- the parameters of a definition have names
abbrev pub unnamed_refusals : List Param → List Refusal
unnamed_refusals [] = []
unnamed_refusals (first ∷ others) = unless (has_name first.name) (place_of_specifier first.specifier) LEFT_OUT ++ unnamed_refusals others

abbrev pub param_variable : Tables → Param → Option Name → List Variable → List Variable
param_variable tables p None behind = behind
param_variable tables p (Some n) behind = record { name = n.text; kind = param_kind tables p } ∷ behind

-- the variables of parameters, the last first
abbrev pub param_variables : Tables → List Param → List Variable → List Variable
param_variables tables [] behind = behind
param_variables tables (first ∷ others) behind = param_variables tables others (param_variable tables first first.name behind)

-- the body of a definition: its outermost block shares the scope of the parameters (C11 6.2.1)
abbrev pub body : Tables → Head → Stmts → Found
body tables head statements =
    stmts (record { tables = tables; scopes = record { here = param_variables tables (listed head.params) []; around = [] } })
    (kind_of_result tables head) false statements

-- an item, and what is declared before it. A second definition is refused as such, whatever its types
abbrev pub item : Tables → Tables → Item → Found
item tables before (Item.StructItem place tag lines) = refuses (structure_refusals tables before tag lines)
item tables before (Item.TypedefStruct place tag lines alias) =
    refuses (structure_refusals tables before (tag_or tag alias) lines) ⊹ refuses (alias_refusals before alias (tag_or tag alias))
item tables before (Item.TypedefAlias place tag alias) =
    refuses (unless (is_defined tables tag.text) tag.place UNDECLARED) ⊹ refuses (alias_refusals before alias tag)
item tables before (Item.Prototype head) = refuses (procedure_refusals tables before before.procedures head)
item tables before (Item.Definition head place statements end) =
    refuses (procedure_refusals tables before (definitions false before.procedures) head)
    ⊹ refuses (unless (not (is_defined_before before head)) head.declarator.name.place SECOND)
    ⊹ refuses (unnamed_refusals (listed head.params))
    ⊹ body tables head statements
