-- A program in which nothing is too large has the sizes of the programs that are analysed.
use Rattle.std.proofs.Common.{◌≡◌, ℕ, suc, ◌+◌, ◌≤◌, Bool, true, false, cond, List, [], ◌∷◌, ◌++◌, length, length-append, map, Option, Some}
use Rattle.std.proofs.Common.{None, Ok, Err, refl, sym, subst, arith}
use Rattle.std.specs.Prelude.{All, nat_le, slice_get}
use Rattle.std.specs.List.{AllByRecursion}
use Rattle.std.specs.Option.{option_map}
use Rattle.std.proofs.lemmas.Bool.{leb-true}
use Rattle.std.proofs.lemmas.List.{length-map}
use Rattle.std.proofs.lemmas.List.Elements.{All-from_recursion, All-map, All-weaker}
use Rattle.shape_data.specs.declared.program.Proc.{Proc}
use Rattle.shape_data.specs.declared.program.Program.{Program}
use Rattle.shape_data.specs.Sizes.{HasFewSlots, HasProgramSizes, IsNarrow}
use Rattle.c_grammar.specs.declared.tokens.places.Place.{Place}
use Rattle.c_grammar.specs.Trees.{Fields, Head, Stmts, Item, File}
use Rattle.c_grammar.specs.FirstPlaces.{place_of_head}
use Rattle.c_types_rules.specs.Items.{field_names, listed}
use Rattle.c_types_rules.specs.Laws.{HaveFirst}
use Rattle.c_types_rules.specs.Programs.{field_def, first_refusal, first_structures, in_unit, is_among, known, struct_def}
use Rattle.c_types_rules.specs.Programs.{tables_of}
use Rattle.c_types_rules.specs.Tables.{Structure, Tables, declared_by, field_kinds, items_of, param_kind}
use Rattle.c_types_rules.specs.Types.{unless}
use Rattle.c_types_rules.proofs.KnownPrograms.{nothing_mapped}
use Rattle.c_types_rules.proofs.KnownTables.{all_append, holds, nil_left, nil_right}
use Rattle.c_lower_rules.specs.Code.{onto}
use Rattle.c_lower_rules.specs.Programs.{fields_refusals, files_procs, files_refusals, first_too_large, item_procs, item_refusals}
use Rattle.c_lower_rules.specs.Programs.{items_procs, items_refusals, lowered_body, param_types, program_of, size_refusals, slot_types}
use Rattle.c_lower_rules.specs.Programs.{temp_kind, MOST_NODES, NODES}
use Rattle.c_lower_rules.specs.Statements.{Lowered, stmts_kinds}
use Rattle.c_lower_rules.proofs.Structures.{fields_length}
use Rattle.c_lower_rules.proofs.WellFormed.{sizes_flat}
use Rattle.project_form.specs.declared.fault.Refused.{Refused}
use Rattle.project_form.specs.Files.{SourceFile}
use Rattle.project_form.specs.Reads.{Reads, answer_of, first_refused, names_of, refusal_of, refused_at, refused_proc, syntax_refusal}
use Rattle.project_form.specs.Reads.{token_refusal, trees_of, whole_refusal, MOST_PROCEDURES}
use Rattle.project_form.proofs.Wholes.{mapped_none, none_of_three}

-- STRUCTURES

-- it has few fields
abbrev HasFewFields : Structure → Type 0
HasFewFields found = length (field_names found.lines) ≤ 16

fields_few : (place : Place) (lines : List Fields) → fields_refusals place lines ≡ [] → length (field_names lines) ≤ 16
fields_few place lines none = leb-true _ _ (holds _ _ _ none)

structures_few : (tables : Tables) (all : List Item) → items_refusals tables all ≡ [] →
    AllByRecursion HasFewFields (declared_by all).structures
structures_few tables [] none = tt
structures_few tables (Item.StructItem place tag lines ∷ others) none =
    (fields_few place lines (nil_left _ _ none), structures_few tables others (nil_right _ _ none))
structures_few tables (Item.TypedefStruct place tag lines alias ∷ others) none =
    (fields_few place lines (nil_left _ _ none), structures_few tables others (nil_right _ _ none))
structures_few tables (Item.TypedefAlias place tag alias ∷ others) none = structures_few tables others none
structures_few tables (Item.Prototype head ∷ others) none = structures_few tables others none
structures_few tables (Item.Definition head place body end ∷ others) none = structures_few tables others (nil_right _ _ none)

firsts_few : (before all : List Structure) → AllByRecursion HasFewFields all → AllByRecursion HasFewFields (first_structures before all)
firsts_few before [] few = tt
firsts_few before (first ∷ others) few = by_test (is_among before first) (firsts_few before others few.1)
    (firsts_few (before ++ first ∷ []) others few.1)
  where
    by_test : (b : Bool) → AllByRecursion HasFewFields (first_structures before others) →
        AllByRecursion HasFewFields (first_structures (before ++ first ∷ []) others)
        → AllByRecursion HasFewFields (cond b (first_structures before others) (first ∷ first_structures (before ++ first ∷ []) others))
    by_test true left kept = left
    by_test false left kept = (few.0, kept)

struct_narrow : (tables : Tables) (found : Structure) → HasFewFields found → IsNarrow (struct_def tables found)
struct_narrow tables found few =
    let mapped = length-map (field_kinds tables found.lines) field_def in
    let same = fields_length tables found.lines in
    omega (arith, mapped, same, few)

structs_narrow : (tables : Tables) (all : List Structure) → AllByRecursion HasFewFields all →
    All IsNarrow (map (struct_def tables) (first_structures [] all))
structs_narrow tables all few =
    let firsts = first_structures [] all in
    All-map IsNarrow (struct_def tables) firsts
    (All-weaker HasFewFields (λ found. IsNarrow (struct_def tables found)) (struct_narrow tables) firsts
    (All-from_recursion HasFewFields firsts (firsts_few [] all few)))

-- PROCEDURES

slots_few : (tables : Tables) (head : Head) (body : Stmts) (l : Lowered) → size_refusals tables head body l ≡ [] →
    length (slot_types tables head body l.behind.temps) ≤ 48
slots_few tables head body l none =
    let locals : length (listed head.params) + length (stmts_kinds tables body) ≤ 32 =
    leb-true _ _
    (holds _ _ _ (nil_right (unless (nat_le (length (l.code.nodes 0 (onto 0))) MOST_NODES) (place_of_head head) NODES) _
    (nil_left _ _ (nil_left _ _ none)))) in
    let temps : length l.behind.temps ≤ 16 = leb-true _ _ (holds _ _ _ (nil_right _ _ (nil_left _ _ none))) in
    let params = length-map (listed head.params) (λ p. known (param_kind tables p)) in
    let kept = length-map l.behind.temps temp_kind in
    let front = length-append (param_types tables head) (stmts_kinds tables body) in
    let all = length-append (param_types tables head ++ stmts_kinds tables body) (map temp_kind l.behind.temps) in
    omega (arith, locals, temps, params, kept, front, all)

-- the procedure has few slots
abbrev IsSmall : Proc → Type 0
IsSmall proc = HasFewSlots proc.flow

item_small : (tables : Tables) (file : List ℕ) (one : Item) → item_refusals tables one ≡ [] →
    AllByRecursion IsSmall (item_procs tables file one)
item_small tables file (Item.StructItem place tag lines) none = tt
item_small tables file (Item.TypedefStruct place tag lines alias) none = tt
item_small tables file (Item.TypedefAlias place tag alias) none = tt
item_small tables file (Item.Prototype head) none = tt
item_small tables file (Item.Definition head place body end) none =
    (slots_few tables head body (lowered_body tables head body end) none, tt)

items_small : (tables : Tables) (file : List ℕ) (all : List Item) → items_refusals tables all ≡ [] →
    AllByRecursion IsSmall (items_procs tables file all)
items_small tables file [] none = tt
items_small tables file (first ∷ others) none =
    all_append IsSmall (item_procs tables file first) (items_procs tables file others) (item_small tables file first (nil_left _ _ none))
    (items_small tables file others (nil_right (item_refusals tables first) _ none))

procs_small : (tables : Tables) (unit : ℕ) (names : List (List ℕ)) (files : List File) → files_refusals tables unit files ≡ [] →
    AllByRecursion IsSmall (files_procs tables names files)
procs_small tables unit [] files none = tt
procs_small tables unit (name ∷ names) [] none = tt
procs_small tables unit (name ∷ names) (file ∷ files) none =
    all_append IsSmall (items_procs tables name file.items) (files_procs tables names files)
    (items_small tables name file.items (nothing_mapped (in_unit unit) (items_refusals tables file.items) (nil_left _ _ none)))
    (procs_small tables (suc unit) names files (nil_right (map (in_unit unit) (items_refusals tables file.items)) _ none))

-- PROGRAMS

sized : HaveFirst → (names : List (List ℕ)) (files : List File) → first_too_large files ≡ None → HasProgramSizes (program_of names files)
sized first names files none =
    let tables = tables_of files in
    let small : files_refusals tables 0 files ≡ [] = first.empty (files_refusals tables 0 files) none in
    record {
      structs = structs_narrow tables tables.structures (structures_few tables (items_of files) (sizes_flat tables 0 files small));
      procs = All-from_recursion IsSmall (files_procs tables names files) (procs_small tables 0 names files small);
    }

pub answers-sized : HaveFirst → (files : List SourceFile) (program : Program) → Reads files (Ok program) → HasProgramSizes program
answers-sized first files program reads = by (refusal_of files reads.readings) refl reads.means
  where
    trees : List File
    trees = trees_of reads.readings

    by : (found : Option Refused) → refusal_of files reads.readings ≡ found → Ok program ≡ answer_of files reads.readings →
        HasProgramSizes program
    by None accepted means =
        let whole = none_of_three (first_refused token_refusal files reads.readings) (first_refused syntax_refusal files reads.readings)
        (whole_refusal (names_of files) trees) accepted in
        let none = none_of_three (option_map (refused_at (names_of files)) (first_refusal trees))
        (option_map (refused_at (names_of files)) (first_too_large trees))
        (option_map refused_proc (slice_get (program_of (names_of files) trees).procs MOST_PROCEDURES)) whole.2 in
        let told : Ok program ≡ Ok (program_of (names_of files) trees) = rw accepted at means in
        let same : program ≡ program_of (names_of files) trees = cc in
        subst HasProgramSizes (sym same) (sized first (names_of files) trees
        (mapped_none (refused_at (names_of files)) (first_too_large trees) none.1))
    by (Some refused) accepted means =
        let never : Ok program ≡ Err refused = rw accepted at means in
        cc
