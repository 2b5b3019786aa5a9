-- In a program in which nothing is refused, the types of fields and of results are known, and each structure that such a type
-- or a name of a type points to is defined.
use Rattle.std.proofs.Common.{◌≡◌, ℕ, zero, suc, Bool, true, false, cond, List, [], ◌∷◌, ◌++◌, refl}
use Rattle.std.specs.Prelude.{Option, Some, None, IfSome, map}
use Rattle.std.specs.List.{AllByRecursion}
use Rattle.std.specs.Str.{bytes_eq}
use Rattle.std.proofs.lemmas.Slice.Eq.{bytes_eq-Decides}
use Rattle.shape_data.specs.declared.program.Ty.TheVariants.{Ptr}
use Rattle.c_grammar.specs.declared.tokens.places.Place.{Place}
use Rattle.c_grammar.specs.Trees.{Specifier, Declarator, Fields, Head, Item}
use Rattle.c_types_rules.specs.Types.{Kind, IsKnown, unless}
use Rattle.c_types_rules.specs.Tables.{Structure, Alias, Procedure, Tables, FieldKind, tag_or, declared_by, structure_in, alias_in}
use Rattle.c_types_rules.specs.Tables.{procedure_in, is_defined, pointer_to, pointer_by, pointer_of, specifier_refusals, names_structure}
use Rattle.c_types_rules.specs.Tables.{object_kind, may_be_object, result_kind, may_be_result, field_kind, field_kinds, field_in, field_by}
use Rattle.c_types_rules.specs.Tables.{field_of, kind_of_result}
use Rattle.c_types_rules.specs.Items.{declarator_refusals, lines_refusals, head_refusals, item}

pub nil_left : {A : Type 0} (xs ys : List A) → xs ++ ys ≡ [] → xs ≡ []
nil_left [] ys e = refl
nil_left (x ∷ xs) ys e = absurd (cc)

pub nil_right : {A : Type 0} (xs ys : List A) → xs ++ ys ≡ [] → ys ≡ []
nil_right [] ys e = e
nil_right (x ∷ xs) ys e = absurd (cc)

pub holds : (b : Bool) (place : Place) (code : ℕ) → unless b place code ≡ [] → b ≡ true
holds true place code e = refl
holds false place code e = absurd (cc)

pub all_append : {X : Type 0} (P : X → Type 0) (xs ys : List X) → AllByRecursion P xs → AllByRecursion P ys → AllByRecursion P (xs ++ ys)
all_append P [] ys h k = k
all_append P (x ∷ xs) ys h k = (h.0, all_append P xs ys h.1 k)

-- a step of a look-up
pub look_up : {X : Type 0} (P : X → Type 0) (b : Bool) (x : X) (others : Option X) → P x → IfSome others P
    → IfSome (cond b (Some x) others) P
look_up P true x others h k = h
look_up P false x others h k = k

-- ITEMS

-- an item is refused nowhere, behind some other items
abbrev pub IsAccepted : Tables → Item → Type 0
IsAccepted tables one = (before : Tables) × ((item tables before one).refusals ≡ [])

abbrev has_tag : List Structure → List ℕ → Bool
has_tag all tag = elim (structure_in all tag) [ None ↦ false | Some found ↦ true ]

tag_first : (first : Structure) (others : List Structure) → has_tag (first ∷ others) first.tag ≡ true
tag_first first others = by_test (bytes_eq first.tag first.tag) ((bytes_eq-Decides first.tag first.tag).1 refl)
  where
    by_test : (b : Bool) → b ≡ true
        → (elim (cond b (Some first) (structure_in others first.tag)) [ None ↦ false | Some found ↦ true ]) ≡ true
    by_test true e = refl
    by_test false e = absurd (cc)

tag_behind : (first : Structure) (others : List Structure) (tag : List ℕ) → has_tag others tag ≡ true → has_tag (first ∷ others) tag ≡ true
tag_behind first others tag h = by_test (bytes_eq first.tag tag)
  where
    by_test : (b : Bool) → (elim (cond b (Some first) (structure_in others tag)) [ None ↦ false | Some found ↦ true ]) ≡ true
    by_test true = refl
    by_test false = h

-- NAMES OF TYPES

abbrev pub IsAliasDefined : Tables → Alias → Type 0
IsAliasDefined tables one = is_defined tables one.tag ≡ true

abbrev pub AreAliasesDefined : Tables → Type 0
AreAliasesDefined tables = AllByRecursion (IsAliasDefined tables) tables.aliases

pub aliases_defined : (tables : Tables) (all : List Item)
    → ((tag : List ℕ) → has_tag (declared_by all).structures tag ≡ true → is_defined tables tag ≡ true)
    → AllByRecursion (IsAccepted tables) all
    → AllByRecursion (IsAliasDefined tables) (declared_by all).aliases
aliases_defined tables [] within h = tt
aliases_defined tables (Item.StructItem place tag lines ∷ others) within h =
    aliases_defined tables others (λ t k. within t (tag_behind _ _ t k)) h.1
aliases_defined tables (Item.TypedefStruct place tag lines alias ∷ others) within h = (
  within (tag_or tag alias).text (tag_first (record { tag = (tag_or tag alias).text; lines = lines }) (declared_by others).structures),
  aliases_defined tables others (λ t k. within t (tag_behind _ _ t k)) h.1,
)
aliases_defined tables (Item.TypedefAlias place tag alias ∷ others) within h =
    (holds _ _ _ (nil_left _ _ h.0.1), aliases_defined tables others within h.1)
aliases_defined tables (Item.Prototype head ∷ others) within h = aliases_defined tables others within h.1
aliases_defined tables (Item.Definition head place body end ∷ others) within h = aliases_defined tables others within h.1

-- TYPES

-- a type that is known, of a structure that is defined where it is a pointer
abbrev pub IsSound : Tables → Kind → Type 0
IsSound tables None = ⊥
IsSound tables (Some (Ptr tag)) = is_defined tables tag ≡ true
IsSound tables (Some other) = Unit {0}

pub known_of : (tables : Tables) (kind : Kind) → IsSound tables kind → IsKnown kind
known_of tables None h = absurd h
known_of tables (Some kind) h = tt

pub pointer_sound : (tables : Tables) (tag : List ℕ) → is_defined tables tag ≡ true → IsSound tables (pointer_to tables tag)
pointer_sound tables tag h = by_test (is_defined tables tag) h
  where
    by_test : (b : Bool) → b ≡ true → IsSound tables (cond b (Some (Ptr tag)) None)
    by_test true e = h
    by_test false e = absurd (cc)

alias_sound : (tables : Tables) (all : List Alias) → AllByRecursion (IsAliasDefined tables) all → (n : List ℕ)
    → (elim (alias_in all n) [ None ↦ false | Some found ↦ true ]) ≡ true
    → IsSound tables (pointer_by tables (alias_in all n))
alias_sound tables [] h n e = absurd (cc)
alias_sound tables (first ∷ others) h n e = by_test (bytes_eq first.name n) (alias_sound tables others h.1 n) e
  where
    by_test : (b : Bool)
        → ((elim (alias_in others n) [ None ↦ false | Some found ↦ true ]) ≡ true → IsSound tables (pointer_by tables (alias_in others n)))
        → (elim (cond b (Some first) (alias_in others n)) [ None ↦ false | Some found ↦ true ]) ≡ true
        → IsSound tables (pointer_by tables (cond b (Some first) (alias_in others n)))
    by_test true behind f = pointer_sound tables first.tag h.0
    by_test false behind f = behind f

pub named_sound : (tables : Tables) → AreAliasesDefined tables → (s : Specifier) → specifier_refusals tables s ≡ []
    → names_structure s ≡ true
    → IsSound tables (pointer_of tables s)
named_sound tables aliases (Specifier.Int place) e h = absurd (cc)
named_sound tables aliases (Specifier.Void place) e h = absurd (cc)
named_sound tables aliases (Specifier.Struct place tag) e h = pointer_sound tables tag.text (holds _ _ _ e)
named_sound tables aliases (Specifier.Alias n) e h = alias_sound tables tables.aliases aliases n.text (holds _ _ _ e)

pub object_sound : (tables : Tables) → AreAliasesDefined tables → (s : Specifier) (stars : ℕ) → specifier_refusals tables s ≡ []
    → may_be_object s stars ≡ true
    → IsSound tables (object_kind tables s stars)
object_sound tables aliases (Specifier.Int place) zero e h = tt
object_sound tables aliases s (suc zero) e h = named_sound tables aliases s e h
object_sound tables aliases s stars e h = absurd (cc)

pub result_sound : (tables : Tables) → AreAliasesDefined tables → (s : Specifier) (stars : ℕ) → specifier_refusals tables s ≡ []
    → may_be_result s stars ≡ true
    → IsSound tables (result_kind tables s stars)
result_sound tables aliases (Specifier.Void place) zero e h = tt
result_sound tables aliases s stars e h = object_sound tables aliases s stars e h

-- STRUCTURES

abbrev pub IsFieldSound : Tables → FieldKind → Type 0
IsFieldSound tables one = IsSound tables one.kind

abbrev pub IsStructureSound : Tables → Structure → Type 0
IsStructureSound tables one = AllByRecursion (IsFieldSound tables) (field_kinds tables one.lines)

line_sound : (tables : Tables) → AreAliasesDefined tables → (s : Specifier) (all : List Declarator) → specifier_refusals tables s ≡ []
    → declarator_refusals s all ≡ []
    → AllByRecursion (IsFieldSound tables) (map (field_kind tables s) all)
line_sound tables aliases s [] e f = tt
line_sound tables aliases s (first ∷ others) e f =
    (object_sound tables aliases s first.stars e (holds _ _ _ (nil_left _ _ f)), line_sound tables aliases s others e (nil_right _ _ f))

lines_sound : (tables : Tables) → AreAliasesDefined tables → (lines : List Fields) → lines_refusals tables lines ≡ []
    → AllByRecursion (IsFieldSound tables) (field_kinds tables lines)
lines_sound tables aliases [] e = tt
lines_sound tables aliases (line ∷ lines) e =
    all_append (IsFieldSound tables) (map (field_kind tables line.specifier) (line.first ∷ line.others)) (field_kinds tables lines)
    (line_sound tables aliases line.specifier (line.first ∷ line.others) (nil_left _ _ (nil_left _ _ e)) (nil_right _ _ (nil_left _ _ e)))
    (lines_sound tables aliases lines (nil_right _ _ e))

structures_sound : (tables : Tables) → AreAliasesDefined tables → (all : List Item) → AllByRecursion (IsAccepted tables) all
    → AllByRecursion (IsStructureSound tables) (declared_by all).structures
structures_sound tables aliases [] h = tt
structures_sound tables aliases (Item.StructItem place tag lines ∷ others) h =
    (lines_sound tables aliases lines (nil_left _ _ (nil_left _ _ h.0.1)), structures_sound tables aliases others h.1)
structures_sound tables aliases (Item.TypedefStruct place tag lines alias ∷ others) h =
    (lines_sound tables aliases lines (nil_left _ _ (nil_left _ _ (nil_left _ _ h.0.1))), structures_sound tables aliases others h.1)
structures_sound tables aliases (Item.TypedefAlias place tag alias ∷ others) h = structures_sound tables aliases others h.1
structures_sound tables aliases (Item.Prototype head ∷ others) h = structures_sound tables aliases others h.1
structures_sound tables aliases (Item.Definition head place body end ∷ others) h = structures_sound tables aliases others h.1

-- PROCEDURES

abbrev pub IsProcedureSound : Tables → Procedure → Type 0
IsProcedureSound tables one = IsSound tables (kind_of_result tables one.head)

pub head_sound : (tables : Tables) → AreAliasesDefined tables → (head : Head) → head_refusals tables head ≡ []
    → IsSound tables (kind_of_result tables head)
head_sound tables aliases head e =
    let named = nil_left _ _ (nil_left _ _ e) in
    result_sound tables aliases head.specifier head.declarator.stars (nil_left _ _ named) (holds _ _ _ (nil_right _ _ named))

procedures_sound : (tables : Tables) → AreAliasesDefined tables → (all : List Item) → AllByRecursion (IsAccepted tables) all
    → AllByRecursion (IsProcedureSound tables) (declared_by all).procedures
procedures_sound tables aliases [] h = tt
procedures_sound tables aliases (Item.StructItem place tag lines ∷ others) h = procedures_sound tables aliases others h.1
procedures_sound tables aliases (Item.TypedefStruct place tag lines alias ∷ others) h = procedures_sound tables aliases others h.1
procedures_sound tables aliases (Item.TypedefAlias place tag alias ∷ others) h = procedures_sound tables aliases others h.1
procedures_sound tables aliases (Item.Prototype head ∷ others) h =
    (head_sound tables aliases head (nil_left _ _ (nil_left _ _ h.0.1)), procedures_sound tables aliases others h.1)
procedures_sound tables aliases (Item.Definition head place body end ∷ others) h =
    (head_sound tables aliases head (nil_left _ _ (nil_left _ _ (nil_left _ _ h.0.1))), procedures_sound tables aliases others h.1)

-- TABLES

pub record SoundTables (tables : Tables) : Type 0 where
  pub aliases : AreAliasesDefined tables
  pub structures : AllByRecursion (IsStructureSound tables) tables.structures
  pub procedures : AllByRecursion (IsProcedureSound tables) tables.procedures

pub tables_sound : (all : List Item) → AllByRecursion (IsAccepted (declared_by all)) all → SoundTables (declared_by all)
tables_sound all h =
    let aliases = aliases_defined (declared_by all) all (λ tag k. k) h in
    record {
      aliases = aliases;
      structures = structures_sound (declared_by all) aliases all h;
      procedures = procedures_sound (declared_by all) aliases all h;
    }

pub field_in_sound : (tables : Tables) (all : List FieldKind) → AllByRecursion (IsFieldSound tables) all → (n : List ℕ)
    → IfSome (field_in all n) (IsFieldSound tables)
field_in_sound tables [] h n = tt
field_in_sound tables (first ∷ others) h n =
    look_up (IsFieldSound tables) (bytes_eq first.name.text n) first (field_in others n) h.0 (field_in_sound tables others h.1 n)

structure_in_sound : (tables : Tables) (all : List Structure) → AllByRecursion (IsStructureSound tables) all → (tag : List ℕ)
    → IfSome (structure_in all tag) (IsStructureSound tables)
structure_in_sound tables [] h tag = tt
structure_in_sound tables (first ∷ others) h tag =
    look_up (IsStructureSound tables) (bytes_eq first.tag tag) first (structure_in others tag) h.0
    (structure_in_sound tables others h.1 tag)

pub procedure_sound : (tables : Tables) (all : List Procedure) → AllByRecursion (IsProcedureSound tables) all → (n : List ℕ)
    → IfSome (procedure_in all n) (IsProcedureSound tables)
procedure_sound tables [] h n = tt
procedure_sound tables (first ∷ others) h n =
    look_up (IsProcedureSound tables) (bytes_eq first.head.declarator.name.text n) first (procedure_in others n) h.0
    (procedure_sound tables others h.1 n)

pub field_sound : (tables : Tables) → SoundTables tables → (tag n : List ℕ) → IfSome (field_of tables tag n) (IsFieldSound tables)
field_sound tables known tag n =
    by_structure (structure_in tables.structures tag) (structure_in_sound tables tables.structures known.structures tag)
  where
    by_structure : (found : Option Structure) → IfSome found (IsStructureSound tables)
        → IfSome (field_by tables found n) (IsFieldSound tables)
    by_structure None h = tt
    by_structure (Some found) h = field_in_sound tables (field_kinds tables found.lines) h n
