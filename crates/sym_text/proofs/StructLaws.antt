-- Structures and the names of their fields.
use Rattle.std.proofs.Common.{◌≡◌, if◌then◌else◌, ℕ, ◌≤◌, Bool, true, false, List, [], ◌∷◌, length, map, ◌⊎◌, inl, inr, Some, None, refl}
use Rattle.std.proofs.Common.{sym, ap, ◌∙◌, subst, arith}
use Rattle.std.specs.Prelude.{All}
use Rattle.std.specs.Option.{IsSomeAnd}
use Rattle.std.specs.Str.{bytes_eq}
use Rattle.std.proofs.lemmas.List.Elements.{All-head, All-tail}
use Rattle.std.proofs.lemmas.Slice.Eq.{bytes_eq-Decides}
use Rattle.shape_data.specs.declared.program.Field.{Field}
use Rattle.shape_data.specs.declared.program.StructDef.{StructDef}
use Rattle.shape_data.specs.Heap.{struct_named}
use Rattle.shape_data.specs.WellFormed.{AreStructs, IsStruct, AreParams}
use Rattle.sym_text.specs.Reading.{kinds, linked, has_some}
use Rattle.sym_text.specs.Text.{field_names}
use Rattle.sym_text.proofs.ExpLaws.{GoodParams}
use Rattle.sym_text.proofs.NameLaws.{AreCNames, Differ, c_names, differ_from}
use Rattle.sym_text.proofs.WordLaws.{Member, same_bytes}

abbrev pub names_of : StructDef → List (List ℕ)
names_of def = map (λ (field : Field). field.name) def.fields

-- the fields of each have C names that differ
abbrev pub GoodFields : List StructDef → Type 0
GoodFields [] = Unit {0}
GoodFields (def ∷ structs) = AreCNames (names_of def) × Differ (names_of def) × GoodFields structs

pub record GoodStructs (structs : List StructDef) : Type 0 where
  pub names : AreCNames (kinds structs)
  pub differ : Differ (kinds structs)
  pub fields : GoodFields structs

good_fields : (structs : List StructDef) → All IsStruct structs → GoodFields structs
good_fields [] all = tt
good_fields (def ∷ structs) all =
    let one = All-head IsStruct def structs all in (
      c_names (λ (field : Field). field.name) def.fields one.field_names,
      differ_from
          (λ (field : Field). field.name) def.fields one.different,
      good_fields structs (All-tail IsStruct def structs all),
    )

struct_names : (structs : List StructDef) → All IsStruct structs → AreCNames (kinds structs)
struct_names [] all = tt
struct_names (def ∷ structs) all =
    let one = All-head IsStruct def structs all in (one.name, struct_names structs (All-tail IsStruct def structs all))

pub good_structs : (structs : List StructDef) → AreStructs structs → GoodStructs structs
good_structs structs are = record {
  names = struct_names structs are.each;
  differ = differ_from (λ (def : StructDef). def.name) structs are.different;
  fields = good_fields structs are.each;
}

pub good_params : (params : List (List ℕ)) → AreParams params → GoodParams params
good_params params are = record {
  few = are.few;
  names = subst AreCNames (map_same params) (c_names (λ name. name) params are.names);
  differ = subst Differ (map_same params) (differ_from (λ name. name) params are.different);
}
  where
    map_same : (words : List (List ℕ)) → map (λ name. name) words ≡ words
    map_same [] = refl
    map_same (word ∷ words) = ap (λ rest. word ∷ rest) (map_same words)

-- the structure of a name that is listed
pub record IsNamed (structs : List StructDef) (kind : List ℕ) : Type 0 where
  pub def : StructDef
  pub named : struct_named structs kind ≡ Some def
  pub names : AreCNames (names_of def)
  pub differ : Differ (names_of def)

later : (def : StructDef) (structs : List StructDef) (kind : List ℕ) → bytes_eq def.name kind ≡ false → IsNamed structs kind
    → IsNamed (def ∷ structs) kind
later def structs kind other is = record { def = is.def; named = rw other is.named; names = is.names; differ = is.differ }

pub kind_named : (structs : List StructDef) (kind : List ℕ) → GoodFields structs → Member kind (kinds structs) → IsNamed structs kind
kind_named [] kind good is = absurd is
kind_named (def ∷ structs) kind good is = by_test (bytes_eq def.name kind) refl is (kind_named structs kind good.2)
  where
    by_test : (same : Bool) → bytes_eq def.name kind ≡ same → (def.name ≡ kind) ⊎ Member kind (kinds structs)
        → (Member kind (kinds structs) → IsNamed structs kind) → IsNamed (def ∷ structs) kind
    by_test true same is rest = record { def = def; named = rw same refl; names = good.0; differ = good.1 }
    by_test false same (inl is) rest =
        let never = (bytes_eq-Decides def.name kind).1 is in absurd (let no_way : true ≡ false = sym never ∙ same in cc)
    by_test false same (inr is) rest = later def structs kind same (rest is)

-- a structure that is found has its name in the list
pub named_kind : (structs : List StructDef) (kind : List ℕ) (P : StructDef → Type 0) → IsSomeAnd (struct_named structs kind) P
    → Member kind (kinds structs) × ((def : StructDef) × (struct_named structs kind ≡ Some def) × P def)
named_kind [] kind P is = absurd is
named_kind (def ∷ structs) kind P is = by_test (bytes_eq def.name kind) refl is (named_kind structs kind P)
  where
    by_test : (same : Bool) → bytes_eq def.name kind ≡ same → IsSomeAnd (if same then Some def else struct_named structs kind) P
        → (IsSomeAnd (struct_named structs kind) P
        → Member kind (kinds structs) × ((def : StructDef) × (struct_named structs kind ≡ Some def) × P def))
        → ((def.name ≡ kind) ⊎ Member kind (kinds structs))
        × ((other : StructDef) × ((if same then Some def else struct_named structs kind) ≡ Some other) × P other)
    by_test true same is rest = (inl (same_bytes def.name kind same), (def, refl, is))
    by_test false same is rest = let (member, found) = rest is in (inr member, found)

-- the structures with a field are structures
pub linked_kind : (structs : List StructDef) (kind : List ℕ) → Member kind (linked structs) → Member kind (kinds structs)
linked_kind [] kind is = absurd is
linked_kind (def ∷ structs) kind is = by_test (has_some def.fields) is (linked_kind structs kind)
  where
    by_test : (some : Bool) → Member kind (if some then def.name ∷ linked structs else linked structs)
        → (Member kind (linked structs) → Member kind (kinds structs)) → (def.name ≡ kind) ⊎ Member kind (kinds structs)
    by_test true (inl same) rest = inl same
    by_test true (inr is) rest = inr (rest is)
    by_test false is rest = inr (rest is)

linked_names : (structs : List StructDef) → AreCNames (kinds structs) → AreCNames (linked structs)
linked_names [] names = tt
linked_names (def ∷ structs) names = by_test (has_some def.fields) (linked_names structs names.1)
  where
    by_test : (some : Bool) → AreCNames (linked structs) → AreCNames (if some then def.name ∷ linked structs else linked structs)
    by_test true rest = (names.0, rest)
    by_test false rest = rest

pub are_linked_names : (structs : List StructDef) → GoodStructs structs → AreCNames (linked structs)
are_linked_names structs good = linked_names structs good.names

-- a structure with a field, by its name
pub linked_found : (structs : List StructDef) (kind : List ℕ) (def : StructDef) → struct_named structs kind ≡ Some def
    → has_some def.fields ≡ true → Member kind (linked structs)
linked_found [] kind def found some = absurd cc
linked_found (one ∷ structs) kind def found some =
    by_test (bytes_eq one.name kind) refl found (λ found. linked_found structs kind def found some)
  where
    by_some : (has : Bool) → Member kind (linked structs) → Member kind (if has then one.name ∷ linked structs else linked structs)
    by_some true rest = inr rest
    by_some false rest = rest

    by_test : (same : Bool) → bytes_eq one.name kind ≡ same → (if same then Some one else struct_named structs kind) ≡ Some def
        → (struct_named structs kind ≡ Some def → Member kind (linked structs))
        → Member kind (if has_some one.fields then one.name ∷ linked structs else linked structs)
    by_test true same found rest =
        let is_def : one ≡ def = cc in
        let has : has_some one.fields ≡ true = ap (λ (d : StructDef). has_some d.fields) is_def ∙ some in
        rw has (inl (same_bytes one.name kind same))
    by_test false same found rest = by_some (has_some one.fields) (rest found)

-- what is found under the name of a structure with a field has a field
pub linked_some : (structs : List StructDef) (kind : List ℕ) (def : StructDef) → Differ (kinds structs) → Member kind (linked structs)
    → struct_named structs kind ≡ Some def → has_some def.fields ≡ true
linked_some [] kind def differ is found = absurd is
linked_some (one ∷ structs) kind def differ is found =
    by_test (bytes_eq one.name kind) (has_some one.fields) refl refl is found (λ is found. linked_some structs kind def differ.1 is found)
  where
    by_test : (same has : Bool) → bytes_eq one.name kind ≡ same → has_some one.fields ≡ has
        → Member kind (if has then one.name ∷ linked structs else linked structs)
        → (if same then Some one else struct_named structs kind) ≡ Some def
        → (Member kind (linked structs) → struct_named structs kind ≡ Some def → has_some def.fields ≡ true) → has_some def.fields ≡ true
    by_test true true same has is found rest = let is_def : one ≡ def = cc in ap (λ (d : StructDef). has_some d.fields) (sym is_def) ∙ has
    by_test true false same has is found rest =
        absurd (differ.0
        (subst (λ (w : List ℕ). Member w (kinds structs)) (sym (same_bytes one.name kind same)) (linked_kind structs kind is)))
    by_test false true same has (inl is) found rest =
        let never = (bytes_eq-Decides one.name kind).1 is in absurd (let no_way : true ≡ false = sym never ∙ same in cc)
    by_test false true same has (inr is) found rest = rest is found
    by_test false false same has is found rest = rest is found

-- the names of the fields of what is found
pub found_names : (structs : List StructDef) (kind : List ℕ) (def : StructDef) → struct_named structs kind ≡ Some def
    → field_names structs kind ≡ names_of def
found_names structs kind def found = rw found refl

-- what is found has the name, and is found under it
pub found_is : (structs : List StructDef) (word : List ℕ) (def : StructDef) → Some def ≡ struct_named structs word
    → (def.name ≡ word) × (struct_named structs def.name ≡ Some def)
found_is structs word def found =
    let same = found_name structs word def (sym found) in
    (same, ap (struct_named structs) same ∙ sym found)
  where
    found_name : (structs : List StructDef) (word : List ℕ) (def : StructDef) → struct_named structs word ≡ Some def → def.name ≡ word
    found_name [] word def found = absurd (let never_so : None ≡ Some def = found in cc)
    found_name (one ∷ structs) word def found = by_test (bytes_eq one.name word) refl found (found_name structs word def)
      where
        by_test : (same : Bool) → bytes_eq one.name word ≡ same → (if same then Some one else struct_named structs word) ≡ Some def
            → (struct_named structs word ≡ Some def → def.name ≡ word) → def.name ≡ word
        by_test true same found rest = let is_def : one ≡ def = cc in ap (λ (d : StructDef). d.name) (sym is_def)
            ∙ same_bytes one.name word same
        by_test false same found rest = rest found

pub none_found : (structs : List StructDef) (word : List ℕ) → Member word (kinds structs) → None ≡ struct_named structs word → ⊥
none_found [] word is none = is
none_found (one ∷ structs) word is none = by_test (bytes_eq one.name word) refl is none (none_found structs word)
  where
    by_test : (same : Bool) → bytes_eq one.name word ≡ same → (one.name ≡ word) ⊎ Member word (kinds structs)
        → None ≡ (if same then Some one else struct_named structs word)
        → (Member word (kinds structs) → None ≡ struct_named structs word → ⊥)
        → ⊥
    by_test true same is none rest = cc
    by_test false same (inl is) none rest =
        let never = (bytes_eq-Decides one.name word).1 is in let no_way : true ≡ false = sym never ∙ same in cc
    by_test false same (inr is) none rest = rest is none

-- the fields of what is found are few
pub few_fields : (structs : List StructDef) (kind : List ℕ) (def : StructDef) → All IsStruct structs → struct_named structs kind ≡ Some def
    → length def.fields ≤ 32768
few_fields [] kind def all found = absurd (let never_so : None ≡ Some def = found in cc)
few_fields (one ∷ structs) kind def all found =
    by_test (bytes_eq one.name kind) found (few_fields structs kind def (All-tail IsStruct one structs all))
  where
    by_test : (same : Bool) → (if same then Some one else struct_named structs kind) ≡ Some def
        → (struct_named structs kind ≡ Some def → length def.fields ≤ 32768) → length def.fields ≤ 32768
    by_test true found rest = let is_def : one
        ≡ def = cc in subst (λ (d : StructDef). length d.fields ≤ 32768) is_def (All-head IsStruct one structs all).fields
    by_test false found rest = rest found
