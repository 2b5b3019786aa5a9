-- The structures of a program in which nothing is refused.
use Rattle.std.proofs.Common.{◌≡◌, ℕ, suc, ◌<◌, Bool, true, false, cond, List, [], ◌∷◌, ◌++◌, length, map, refl, arith, subst, sym, ap, ◌∙◌}
use Rattle.std.specs.Prelude.{◌≢◌, Option, Some, None, IfSome, IsSome, nat_le, option_map}
use Rattle.std.specs.Option.{IsSomeAnd}
use Rattle.std.specs.List.{AllByRecursion}
use Rattle.std.specs.Str.{bytes_eq}
use Rattle.std.proofs.lemmas.Bool.{leb-true}
use Rattle.std.proofs.lemmas.List.{length-map, map-append}
use Rattle.std.proofs.lemmas.List.Elements.{All-from_recursion, recursion_from_All}
use Rattle.shape_data.specs.declared.program.Field.{Field}
use Rattle.shape_data.specs.declared.program.StructDef.{StructDef}
use Rattle.shape_data.specs.declared.program.Ty.{Ty}
use Rattle.shape_data.specs.declared.program.Ty.TheVariants.{Int, Ptr, Void}
use Rattle.shape_data.specs.Heap.{struct_named}
use Rattle.shape_data.specs.Names.{IsCName}
use Rattle.shape_data.specs.WellFormed.{IsTy, IsStruct, AreStructs, IsCountable, IsKind, IsField}
use Rattle.c_grammar.specs.Trees.{Specifier, Declarator, Fields, Item}
use Rattle.c_types_rules.specs.Types.{Kind}
use Rattle.c_types_rules.specs.Tables.{Structure, Tables, FieldKind, declared_by, structure_in, is_defined, field_kind, field_kinds}
use Rattle.c_types_rules.specs.Tables.{field_in, field_by, field_of, place_in, place_by, field_place}
use Rattle.c_types_rules.specs.Items.{field_names, twice, lines_refusals}
use Rattle.c_types_rules.specs.Programs.{known, field_def, struct_def, is_among, first_structures}
use Rattle.c_types_rules.proofs.KnownTables.{nil_left, nil_right, holds, IsAccepted, IsSound, IsFieldSound, IsStructureSound}
use Rattle.c_lower_rules.specs.Programs.{name_text, MOST_FIELDS, items_refusals}
use Rattle.c_lower_rules.specs.Texts.{IsNamed, IsItemNamed}
use Rattle.c_lower_rules.proofs.Different.{Distinct, all_of_map, map_of_all, all_more, different_names, unequal, equal, twice_distinct}

-- EACH STRUCTURE

pub record IsFine (tables : Tables) (s : Structure) : Type 0 where
  pub tag : IsCName s.tag
  pub names : AllByRecursion IsNamed (field_names s.lines)
  pub different : twice [] (field_names s.lines) ≡ []
  pub few : nat_le (length (field_names s.lines)) MOST_FIELDS ≡ true
  pub sound : IsStructureSound tables s

pub structures_fine : (tables : Tables) (all : List Item) → AllByRecursion (IsAccepted tables) all → AllByRecursion IsItemNamed all
    → items_refusals tables all ≡ []
    → AllByRecursion (IsStructureSound tables) (declared_by all).structures → AllByRecursion (IsFine tables) (declared_by all).structures
structures_fine tables [] h n f s = tt
structures_fine tables (Item.StructItem place tag lines ∷ others) h n f s = (
  record {
    tag = n.0.0;
    names = recursion_from_All IsNamed (field_names lines) n.0.1;
    different = nil_right (lines_refusals tables lines) _ (nil_left _ _ h.0.1);
    few = holds _ _ _ (nil_left _ _ f);
    sound = s.0;
  },
  structures_fine tables others h.1 n.1 (nil_right _ _ f) s.1,
)
structures_fine tables (Item.TypedefStruct place tag lines alias ∷ others) h n f s = (
  record {
    tag = n.0.0;
    names = recursion_from_All IsNamed (field_names lines) n.0.1;
    different = nil_right (lines_refusals tables lines) _ (nil_left _ _ (nil_left _ _ h.0.1));
    few = holds _ _ _ (nil_left _ _ f);
    sound = s.0;
  },
  structures_fine tables others h.1 n.1 (nil_right _ _ f) s.1,
)
structures_fine tables (Item.TypedefAlias place tag alias ∷ others) h n f s = structures_fine tables others h.1 n.1 f s
structures_fine tables (Item.Prototype head ∷ others) h n f s = structures_fine tables others h.1 n.1 f s
structures_fine tables (Item.Definition head place body end ∷ others) h n f s = structures_fine tables others h.1 n.1 (nil_right _ _ f) s

-- LOOKING UP

abbrev pub AreTagged : List Structure → Type 0
AreTagged all = AllByRecursion (λ (s : Structure). IsCName s.tag) all

pub defined_tag : (all : List Structure) → AreTagged all → (tag : List ℕ)
    → (elim (structure_in all tag) [ None ↦ false | Some found ↦ true ]) ≡ true → IsCName tag
defined_tag [] h tag e = absurd (cc)
defined_tag (first ∷ others) h tag e = by_test (bytes_eq first.tag tag) refl (defined_tag others h.1 tag) e
  where
    by_test : (b : Bool) → bytes_eq first.tag tag ≡ b
        → ((elim (structure_in others tag) [ None ↦ false | Some found ↦ true ]) ≡ true → IsCName tag)
        → (elim (cond b (Some first) (structure_in others tag)) [ None ↦ false | Some found ↦ true ]) ≡ true → IsCName tag
    by_test true eq behind f = subst IsCName (equal first.tag tag eq) h.0
    by_test false eq behind f = behind f

-- a tag that was found nowhere is not found at the end
not_found : (before : List Structure) (last : Structure) (tag : List ℕ) → structure_in before tag ≡ None → bytes_eq last.tag tag ≡ false
    → structure_in (before ++ last ∷ []) tag ≡ None
not_found [] last tag e f = rw f refl
not_found (first ∷ others) last tag e f = by_test (bytes_eq first.tag tag) (not_found others last tag) e
  where
    by_test : (b : Bool) → (structure_in others tag ≡ None → bytes_eq last.tag tag ≡ false → structure_in (others ++ last ∷ []) tag ≡ None)
        → cond b (Some first) (structure_in others tag) ≡ None → cond b (Some first) (structure_in (others ++ last ∷ []) tag) ≡ None
    by_test true behind g = absurd (cc)
    by_test false behind g = behind g f

-- of a tag that was not found before, the first structure stands among the first ones
pub named_first : (tables : Tables) (before all : List Structure) (tag : List ℕ) → structure_in before tag ≡ None
    → struct_named (map (struct_def tables) (first_structures before all)) tag ≡ option_map (struct_def tables) (structure_in all tag)
named_first tables before [] tag e = refl
named_first tables before (first ∷ others) tag e =
    by_test (bytes_eq first.tag tag) refl (is_among before first) refl (named_first tables before others tag e)
    (λ f. named_first tables (before ++ first ∷ []) others tag (not_found before first tag e f))
  where
    same_among : bytes_eq first.tag tag ≡ true → is_among before first ≡ false
    same_among eq =
        subst (λ t. (elim (structure_in before t) [ None ↦ false | Some found ↦ true ]) ≡ false) (sym (equal first.tag tag eq)) (rw e refl)

    by_test : (b : Bool) → bytes_eq first.tag tag ≡ b → (among : Bool) → is_among before first ≡ among
        → struct_named (map (struct_def tables) (first_structures before others)) tag
        ≡ option_map (struct_def tables) (structure_in others tag)
        → (bytes_eq first.tag tag ≡ false
        → struct_named (map (struct_def tables) (first_structures (before ++ first ∷ []) others)) tag
        ≡ option_map (struct_def tables) (structure_in others tag))
        → struct_named
        (map (struct_def tables) (cond among (first_structures before others) (first ∷ first_structures (before ++ first ∷ []) others))) tag
        ≡ option_map (struct_def tables) (cond b (Some first) (structure_in others tag))
    by_test true eq true seen one other = absurd (clash (is_among before first) (same_among eq) seen)
      where
        clash : (b : Bool) → b ≡ false → b ≡ true → ⊥
        clash true e f = cc
        clash false e f = cc
    by_test true eq false seen one other = rw eq refl
    by_test false eq true seen one other = one
    by_test false eq false seen one other = rw eq (other eq)

-- THE FIELDS

abbrev name_of_kind : FieldKind → List ℕ
name_of_kind k = k.name.text

line_names : (tables : Tables) (s : Specifier) (all : List Declarator)
    → map name_of_kind (map (field_kind tables s) all) ≡ map name_text (map (λ (d : Declarator). d.name) all)
line_names tables s [] = refl
line_names tables s (first ∷ others) = ap (λ r. first.name.text ∷ r) (line_names tables s others)

kinds_names : (tables : Tables) (lines : List Fields) → map name_of_kind (field_kinds tables lines) ≡ map name_text (field_names lines)
kinds_names tables [] = refl
kinds_names tables (line ∷ lines) =
    map-append name_of_kind (map (field_kind tables line.specifier) (line.first ∷ line.others)) (field_kinds tables lines)
    ∙ ap (λ xs. xs ++ map name_of_kind (field_kinds tables lines)) (line_names tables line.specifier (line.first ∷ line.others))
    ∙ ap (λ ys. map name_text (map (λ (d : Declarator). d.name) (line.first ∷ line.others)) ++ ys) (kinds_names tables lines)
    ∙ sym (map-append name_text (map (λ (d : Declarator). d.name) (line.first ∷ line.others)) (field_names lines))

def_names : (kinds : List FieldKind) → map (λ (f : Field). f.name) (map field_def kinds) ≡ map name_of_kind kinds
def_names [] = refl
def_names (k ∷ ks) = ap (λ r. k.name.text ∷ r) (def_names ks)

-- as many fields have types as have names
pub fields_length : (tables : Tables) (lines : List Fields) → length (field_kinds tables lines) ≡ length (field_names lines)
fields_length tables lines =
    sym (length-map (field_kinds tables lines) name_of_kind) ∙ ap length (kinds_names tables lines)
    ∙ length-map (field_names lines) name_text

pub place_there : (all : List FieldKind) (n : List ℕ) → IfSome (field_in all n) (λ f. place_in all n < length all)
place_there [] n = tt
place_there (first ∷ others) n = by_test (bytes_eq first.name.text n) (place_there others n)
  where
    by_test : (b : Bool) → IfSome (field_in others n) (λ f. place_in others n < length others)
        → IfSome (cond b (Some first) (field_in others n)) (λ f. cond b 0 (suc (place_in others n)) < length (first ∷ others))
    by_test true h = omega arith
    by_test false h = behind (field_in others n) h
      where
        behind : (found : Option FieldKind) → IfSome found (λ f. place_in others n < length others)
            → IfSome found (λ f. suc (place_in others n) < length (first ∷ others))
        behind None h = tt
        behind (Some f) h = omega arith

abbrev HasTags : Tables → Type 0
HasTags tables = (tag : List ℕ) → is_defined tables tag ≡ true → IsCName tag

sound_ty : (tables : Tables) → HasTags tables → (k : FieldKind) → IsFieldSound tables k → IsTy (field_def k).ty
sound_ty tables tags k h = by_kind k.kind h
  where
    by_ty : (ty : Ty) → IsSound tables (Some ty) → IsTy ty
    by_ty Int h = tt
    by_ty (Ptr tag) h = tags tag h
    by_ty Void h = tt

    by_kind : (kind : Kind) → IsSound tables kind → IsTy (known kind)
    by_kind None h = absurd h
    by_kind (Some ty) h = by_ty ty h

struct_good : (tables : Tables) → HasTags tables → (s : Structure) → IsFine tables s → IsStruct (struct_def tables s)
struct_good tables tags s h =
    let kinds = field_kinds tables s.lines in
    let names : AllByRecursion IsCName (map name_of_kind kinds) =
    subst (AllByRecursion IsCName) (sym (kinds_names tables s.lines)) (map_of_all IsCName name_text (field_names s.lines) h.names) in
    let count = fields_length tables s.lines in
    let few = leb-true _ _ h.few in
    let def_count = length-map kinds field_def in
    record {
      name = h.tag;
      fields = omega arith;
      field_names = All-from_recursion (λ (f : Field). IsCName f.name) (map field_def kinds)
          (map_of_all (λ (f : Field). IsCName f.name) field_def kinds (all_of_map IsCName name_of_kind kinds names));
      types = All-from_recursion (λ (f : Field). IsTy f.ty) (map field_def kinds)
          (map_of_all (λ (f : Field). IsTy f.ty) field_def kinds
          (all_more (IsFieldSound tables) (λ k. IsTy (field_def k).ty) (sound_ty tables tags) kinds h.sound));
      different = different_names (λ (f : Field). f.name) (map field_def kinds)
          (subst Distinct (sym (def_names kinds ∙ kinds_names tables s.lines)) (twice_distinct [] (field_names s.lines) h.different));
    }

-- THE FIRST ONES

not_in_front : (before : List Structure) (last : Structure) (tag : List ℕ) → structure_in (before ++ last ∷ []) tag ≡ None
    → (structure_in before tag ≡ None) × (bytes_eq last.tag tag ≡ false)
not_in_front [] last tag e = (refl, by_test (bytes_eq last.tag tag) e)
  where
    by_test : (b : Bool) → cond b (Some last) None ≡ None → b ≡ false
    by_test true f = absurd (cc)
    by_test false f = refl
not_in_front (first ∷ others) last tag e = by_test (bytes_eq first.tag tag) (not_in_front others last tag) e
  where
    by_test : (b : Bool)
        → (structure_in (others ++ last ∷ []) tag ≡ None → (structure_in others tag ≡ None) × (bytes_eq last.tag tag ≡ false))
        → cond b (Some first) (structure_in (others ++ last ∷ []) tag) ≡ None
        → (cond b (Some first) (structure_in others tag) ≡ None) × (bytes_eq last.tag tag ≡ false)
    by_test true behind f = absurd (cc)
    by_test false behind f = behind f

not_among : (before : List Structure) (s : Structure) → is_among before s ≡ false → structure_in before s.tag ≡ None
not_among before s e = by_found (structure_in before s.tag) e
  where
    by_found : (found : Option Structure) → (elim found [ None ↦ false | Some first ↦ true ]) ≡ false → found ≡ None
    by_found None f = refl
    by_found (Some first) f = absurd (cc)

abbrev tag_of_structure : Structure → List ℕ
tag_of_structure s = s.tag

record AreFirsts (before firsts : List Structure) : Type 0 where
  fresh : AllByRecursion (λ (s : Structure). structure_in before s.tag ≡ None) firsts
  distinct : Distinct (map tag_of_structure firsts)

firsts_distinct : (before all : List Structure) → AreFirsts before (first_structures before all)
firsts_distinct before [] = record { fresh = tt; distinct = tt }
firsts_distinct before (first ∷ others) =
    by_test (is_among before first) refl (firsts_distinct before others) (firsts_distinct (before ++ first ∷ []) others)
  where
    by_test : (b : Bool) → is_among before first ≡ b → AreFirsts before (first_structures before others)
        → AreFirsts (before ++ first ∷ []) (first_structures (before ++ first ∷ []) others)
        → AreFirsts before (cond b (first_structures before others) (first ∷ first_structures (before ++ first ∷ []) others))
    by_test true eq h k = h
    by_test false eq h k = record {
      fresh = (
        not_among before first eq,
        all_more (λ (s : Structure). structure_in (before ++ first ∷ []) s.tag ≡ None) (λ (s : Structure). structure_in before s.tag ≡ None)
            (λ s e. (not_in_front before first s.tag e).0) (first_structures (before ++ first ∷ []) others) k.fresh,
      );
      distinct = (
        map_of_all (λ tag. first.tag ≢ tag) tag_of_structure (first_structures (before ++ first ∷ []) others)
            (all_more (λ (s : Structure). structure_in (before ++ first ∷ []) s.tag ≡ None) (λ (s : Structure). first.tag ≢ s.tag)
            (λ s e. unequal first.tag s.tag (not_in_front before first s.tag e).1)
            (first_structures (before ++ first ∷ []) others) k.fresh),
        k.distinct,
      );
    }

firsts_fine : (tables : Tables) (before all : List Structure) → AllByRecursion (IsFine tables) all
    → AllByRecursion (IsFine tables) (first_structures before all)
firsts_fine tables before [] h = tt
firsts_fine tables before (first ∷ others) h =
    by_test (is_among before first) (firsts_fine tables before others h.1) (firsts_fine tables (before ++ first ∷ []) others h.1)
  where
    by_test : (b : Bool) → AllByRecursion (IsFine tables) (first_structures before others)
        → AllByRecursion (IsFine tables) (first_structures (before ++ first ∷ []) others)
        → AllByRecursion (IsFine tables) (cond b (first_structures before others) (first ∷ first_structures (before ++ first ∷ []) others))
    by_test true one other = one
    by_test false one other = (h.0, other)

struct_tags : (tables : Tables) (all : List Structure)
    → map (λ (d : StructDef). d.name) (map (struct_def tables) all) ≡ map tag_of_structure all
struct_tags tables [] = refl
struct_tags tables (s ∷ ss) = ap (λ r. s.tag ∷ r) (struct_tags tables ss)

-- THE PROGRAM'S STRUCTURES

pub structs_good : (tables : Tables) → HasTags tables → (all : List Structure) → AllByRecursion (IsFine tables) all
    → IsCountable (map (struct_def tables) (first_structures [] all)) → AreStructs (map (struct_def tables) (first_structures [] all))
structs_good tables tags all h count =
    let firsts = first_structures [] all in
    record {
      countable = count;
      each = All-from_recursion IsStruct (map (struct_def tables) firsts)
          (map_of_all IsStruct (struct_def tables) firsts
          (all_more (IsFine tables) (λ s. IsStruct (struct_def tables s)) (struct_good tables tags) firsts (firsts_fine tables [] all h)));
      different = different_names (λ (d : StructDef). d.name) (map (struct_def tables) firsts)
          (subst Distinct (sym (struct_tags tables firsts)) (firsts_distinct [] all).distinct);
    }

pub tags_of : (tables : Tables) → AllByRecursion (IsFine tables) tables.structures → HasTags tables
tags_of tables h tag e =
    defined_tag tables.structures (all_more (IsFine tables) (λ (s : Structure). IsCName s.tag) (λ s k. k.tag) tables.structures h) tag e

pub kind_there : (tables : Tables) (tag : List ℕ) → is_defined tables tag ≡ true
    → IsKind (map (struct_def tables) (first_structures [] tables.structures)) tag
kind_there tables tag e =
    subst IsSome (sym (named_first tables [] tables.structures tag refl)) (by_found (structure_in tables.structures tag) e)
  where
    by_found : (found : Option Structure) → (elim found [ None ↦ false | Some f ↦ true ]) ≡ true
        → IsSome (option_map (struct_def tables) found)
    by_found None f = absurd (cc)
    by_found (Some s) f = refl

pub fields_there : (tables : Tables) (tag n : List ℕ)
    → IfSome (field_of tables tag n)
    (λ found. IsField (map (struct_def tables) (first_structures [] tables.structures)) tag (field_place tables tag n))
fields_there tables tag n =
    subst (λ (named : Option StructDef). IfSome (field_of tables tag n)
    (λ found. IsSomeAnd named (λ def. field_place tables tag n < length def.fields)))
    (sym (named_first tables [] tables.structures tag refl)) (by_structure (structure_in tables.structures tag))
  where
    by_field : (s : Structure) (found : Option FieldKind)
        → IfSome found (λ f. place_in (field_kinds tables s.lines) n < length (field_kinds tables s.lines))
        → IfSome found (λ f. place_in (field_kinds tables s.lines) n < length (struct_def tables s).fields)
    by_field s None h = tt
    by_field s (Some f) h = let count = length-map (field_kinds tables s.lines) field_def in omega arith

    by_structure : (found : Option Structure)
        → IfSome (field_by tables found n)
        (λ f. IsSomeAnd (option_map (struct_def tables) found) (λ def. place_by tables found n < length def.fields))
    by_structure None = tt
    by_structure (Some s) = by_field s (field_in (field_kinds tables s.lines) n) (place_there (field_kinds tables s.lines) n)
