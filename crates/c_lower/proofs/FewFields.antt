-- The fields of each structure can be counted in 32 bits.
use Rattle.std.proofs.Common.{ℕ, suc, ◌<◌, ◌≤◌, Bool, true, false, cond}
use Rattle.std.proofs.Common.{Option, Some, None, List, [], ◌∷◌, length, arith, All}
use Rattle.std.specs.Prelude.{IfSome}
use Rattle.std.specs.List.{AllByRecursion}
use Rattle.std.specs.Str.{bytes_eq}
use Rattle.std.proofs.lemmas.List.Elements.{recursion_from_All}
use Rattle.c_grammar.specs.Trees.{Item, File}
use Rattle.c_types_rules.specs.Tables.{Structure, Tables, FieldKind, declared_by, items_of, structure_in, field_kinds, place_in, place_by}
use Rattle.c_types_rules.specs.Items.{field_names}
use Rattle.c_types_rules.specs.Programs.{tables_of}
use Rattle.c_types_rules.proofs.KnownTables.{look_up, all_append}
use Rattle.c_lower_rules.specs.Numbers.{IsIntNumber}
use Rattle.c_lower_rules.proofs.Structures.{fields_length}
use Rattle.c_lower_rules.specs.Fields.{ItemHasCountableFields, HasCountableFields}
use Rattle.c_lower_exprs.specs.Contexts.{FieldsFit}

step : (b : Bool) (place count : ℕ) → place ≤ count → cond b 0 (suc place) ≤ suc count
step true place count le = omega arith
step false place count le = omega (arith, le)

place_within : (all : List FieldKind) (n : List ℕ) → place_in all n ≤ length all
place_within [] n = omega arith
place_within (first ∷ others) n = step (bytes_eq first.name.text n) (place_in others n) (length others) (place_within others n)

abbrev HasFew : Structure → Type 0
HasFew one = IsIntNumber (length (field_names one.lines))

abbrev AllHaveFew : List Item → Type 0
AllHaveFew items = AllByRecursion ItemHasCountableFields items

few_structures : (items : List Item) → AllHaveFew items → AllByRecursion HasFew (declared_by items).structures
few_structures [] h = tt
few_structures (Item.StructItem place tag lines ∷ others) h = (h.0, few_structures others h.1)
few_structures (Item.TypedefStruct place tag lines alias ∷ others) h = (h.0, few_structures others h.1)
few_structures (Item.TypedefAlias place tag alias ∷ others) h = few_structures others h.1
few_structures (Item.Prototype head ∷ others) h = few_structures others h.1
few_structures (Item.Definition head place body end ∷ others) h = few_structures others h.1

found_few : (all : List Structure) → AllByRecursion HasFew all → (tag : List ℕ) → IfSome (structure_in all tag) HasFew
found_few [] h tag = tt
found_few (first ∷ others) h tag = look_up HasFew (bytes_eq first.tag tag) first (structure_in others tag) h.0 (found_few others h.1 tag)

place_few : (tables : Tables) (found : Option Structure) (n : List ℕ) → IfSome found HasFew → place_by tables found n < 4294967296
place_few tables None n h = omega arith
place_few tables (Some found) n h = omega (arith, place_within (field_kinds tables found.lines) n, fields_length tables found.lines, h)

items_few : (files : List File) → AllByRecursion HasCountableFields files → AllHaveFew (items_of files)
items_few [] h = tt
items_few (file ∷ files) h =
    all_append ItemHasCountableFields file.items (items_of files) (recursion_from_All ItemHasCountableFields file.items h.0)
    (items_few files h.1)

pub fields_fit : (files : List File) → All HasCountableFields files → FieldsFit (tables_of files)
fields_fit files h = λ tag n.
    place_few (tables_of files) (structure_in (tables_of files).structures tag) n
    (found_few (tables_of files).structures
    (few_structures (items_of files) (items_few files (recursion_from_All HasCountableFields files h))) tag)
