-- The fields of structures, one declaration after another.
use Rattle.std.proofs.Common.{◌≡◌, ℕ, suc, Bool, true, false, List, [], ◌∷◌, ◌++◌, map, slice_get, Option, Some, None, option_map}
use Rattle.std.proofs.Common.{if◌then◌else◌, refl, ap, ◌∙◌}
use Rattle.std.proofs.lemmas.List.{map-append}
use Rattle.std.specs.Str.{bytes_eq}
use Rattle.c_grammar.specs.Trees.{Specifier, Declarator, Fields}
use Rattle.c_types_rules.specs.Tables.{Tables, Structure, FieldKind, structure_in, field_in, field_kind, field_kinds, field_by}
use Rattle.c_types_rules.specs.Tables.{place_in, place_by}
use Rattle.c_types_names.specs.NameMap.{or_first}
use Rattle.c_types_names.specs.StructFields.{DeclaredTree, declared_by_one, declared_in_line, declared_fields, fields_of}
use Rattle.c_types_names.specs.StructFields.{place_named, kind_of_declared}

line_kinds : (tables : Tables) (specifier : Specifier) (declarators : List Declarator)
    → map (kind_of_declared tables) (map (declared_by_one specifier) declarators) ≡ map (field_kind tables specifier) declarators
line_kinds tables specifier [] = refl
line_kinds tables specifier (first ∷ others) = ap (λ kinds. field_kind tables specifier first ∷ kinds) (line_kinds tables specifier others)

-- the fields with their types
pub kinds_declared : (tables : Tables) (lines : List Fields)
    → map (kind_of_declared tables) (declared_fields lines) ≡ field_kinds tables lines
kinds_declared tables [] = refl
kinds_declared tables (line ∷ lines) =
    map-append (kind_of_declared tables) (declared_in_line line) (declared_fields lines)
    ∙ ap (λ kinds. kinds ++ map (kind_of_declared tables) (declared_fields lines))
    (line_kinds tables line.specifier (line.first ∷ line.others))
    ∙ ap (λ kinds. map (field_kind tables line.specifier) (line.first ∷ line.others) ++ kinds) (kinds_declared tables lines)

-- what stands at the place of the name is the first field of it
kind_there : (tables : Tables) (fields : List DeclaredTree) (n : List ℕ)
    → option_map (kind_of_declared tables) (slice_get fields (place_named fields n)) ≡ field_in (map (kind_of_declared tables) fields) n
kind_there tables [] n = refl
kind_there tables (first ∷ others) n = by_test (bytes_eq first.declarator.name.text n) (kind_there tables others n)
  where
    by_test : (b : Bool)
        → option_map (kind_of_declared tables) (slice_get others (place_named others n)) ≡ field_in (map (kind_of_declared tables) others) n
        → option_map (kind_of_declared tables) (slice_get (first ∷ others) (if b then 0 else suc (place_named others n)))
        ≡ (if b then Some (kind_of_declared tables first) else field_in (map (kind_of_declared tables) others) n)
    by_test true is = refl
    by_test false is = is

place_of_kind : (tables : Tables) (fields : List DeclaredTree) (n : List ℕ)
    → place_named fields n ≡ place_in (map (kind_of_declared tables) fields) n
place_of_kind tables [] n = refl
place_of_kind tables (first ∷ others) n =
    ap (λ place. if bytes_eq first.declarator.name.text n then 0 else suc place) (place_of_kind tables others n)

-- the place of the first field of the name, or how many fields there are; 0 where there is no structure
abbrev pub place_in_table : Option (List DeclaredTree) → List ℕ → ℕ
place_in_table None n = 0
place_in_table (Some fields) n = place_named fields n

-- the field there, with its type
abbrev pub field_in_table : Tables → Option (List DeclaredTree) → List ℕ → Option FieldKind
field_in_table tables None n = None
field_in_table tables (Some fields) n = option_map (kind_of_declared tables) (slice_get fields (place_named fields n))

-- the place of a field that is found by its name
pub place_by_name : (tables : Tables) (found : Option Structure) (n : List ℕ)
    → place_in_table (option_map fields_of found) n ≡ place_by tables found n
place_by_name tables None n = refl
place_by_name tables (Some one) n =
    place_of_kind tables (fields_of one) n ∙ ap (λ kinds. place_in kinds n) (kinds_declared tables one.lines)

-- a field that is found by its name, with its type
pub field_by_name : (tables : Tables) (found : Option Structure) (n : List ℕ)
    → field_in_table tables (option_map fields_of found) n ≡ field_by tables found n
field_by_name tables None n = refl
field_by_name tables (Some one) n = kind_there tables (fields_of one) n ∙ ap (λ kinds. field_in kinds n) (kinds_declared tables one.lines)

-- the fields of the first structure of a tag, behind one more structure
pub more_fields : (all : List Structure) (one : Structure) (n : List ℕ)
    → or_first (option_map fields_of (structure_in all n)) (bytes_eq one.tag n) (fields_of one)
    ≡ option_map fields_of (structure_in (all ++ one ∷ []) n)
more_fields [] one n = by_test (bytes_eq one.tag n)
  where
    by_test : (b : Bool) → or_first None b (fields_of one) ≡ option_map fields_of (if b then Some one else None)
    by_test true = refl
    by_test false = refl
more_fields (first ∷ others) one n = by_test (bytes_eq first.tag n) (more_fields others one n)
  where
    by_test : (b : Bool)
        → or_first (option_map fields_of (structure_in others n)) (bytes_eq one.tag n) (fields_of one)
        ≡ option_map fields_of (structure_in (others ++ one ∷ []) n)
        → or_first (option_map fields_of (if b then Some first else structure_in others n)) (bytes_eq one.tag n) (fields_of one)
        ≡ option_map fields_of (if b then Some first else structure_in (others ++ one ∷ []) n)
    by_test true is = refl
    by_test false is = is
