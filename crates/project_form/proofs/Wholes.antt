-- Files as a whole: where they are refused is one of them, what lowering asks of them they have, and their program is well formed.
use Rattle.std.proofs.Common.{◌≡◌, ℕ, suc, ◌+◌, ◌<◌, ◌≤◌, List, [], ◌∷◌, length, Option, Some, None, Ok, Err, ◌⊎◌, inl, inr, refl, sym, ap}
use Rattle.std.proofs.Common.{◌∙◌, subst, arith}
use Rattle.std.specs.List.{sum_by}
use Rattle.std.specs.Option.{option_map, option_or}
use Rattle.std.specs.Prelude.{map, All, slice_get, get_or}
use Rattle.std.proofs.lemmas.List.Elements.{All-nil, All-cons, All-append, All-map, All-contains, All-weaker}
use Rattle.std.proofs.lemmas.List.Sums.{sum_by-cons}
use Rattle.std.proofs.lemmas.Option.{slice_get_cases}
use Rattle.shape_data.specs.declared.program.Program.{Program}
use Rattle.shape_data.specs.WellFormed.{IsProgram}
use Rattle.c_grammar.specs.declared.tokens.places.Refusal.{Refusal}
use Rattle.c_grammar.specs.Trees.{File}
use Rattle.c_tree.specs.declared.items.Unit.{Unit as UnitValue}
use Rattle.c_tree.specs.Syntax.{unit_tree}
use Rattle.c_types_rules.specs.declared.at.At.{At}
use Rattle.c_types_rules.specs.Laws.{HaveFirst}
use Rattle.c_types_rules.specs.Tables.{Tables, joined, declared_by, no_tables}
use Rattle.c_types_rules.specs.Programs as typing
use Rattle.c_types_rules.specs.Programs.{IsWellTyped, first_refusal, in_unit, refusals_of, tables_of}
use Rattle.c_lower_rules.specs.Fields.{HasCountableFields}
use Rattle.c_lower_rules.specs.Laws.{HaveWellFormed}
use Rattle.c_lower_rules.specs.Numbers.{FileHasIntNumbers}
use Rattle.c_lower_rules.specs.Parsed.{HaveTexts}
use Rattle.c_lower_rules.specs.Programs as lowering
use Rattle.c_lower_rules.specs.Programs.{first_too_large, program_of}
use Rattle.c_lower_rules.specs.Texts.{IsText}
use Rattle.project_form.specs.declared.fault.Refused.{Refused}
use Rattle.project_form.specs.Files.{SourceFile, AreFiles, MOST_BYTES, bytes_of, text_length}
use Rattle.project_form.specs.Kept.{KeptFile, sources_of}
use Rattle.project_form.specs.Parts.{AreUnits, IsLowerable}
use Rattle.project_form.specs.Reads.{Reading, NoTokens, NoFile, Tree, AreReadings, Reads, answer_of, first_refused, names_of, refusal_of}
use Rattle.project_form.specs.Reads.{refused_at, refused_proc, syntax_refusal, token_refusal, trees_of, whole_refusal, MOST_PROCEDURES}
use Rattle.project_form.proofs.Counting.{AreTrees, files_structs}

-- WHICH FILE IS REFUSED

-- the place is in one of the files up to this number
abbrev IsBelow : ℕ → At → Type 0
IsBelow end at = at.unit < end

in_file : (unit end : ℕ) (refusals : List Refusal) → unit < end → All (IsBelow end) (map (in_unit unit) refusals)
in_file unit end refusals inside = All-map (IsBelow end) (in_unit unit) refusals (λ k d within. inside)

typed_below : (tables before : Tables) (unit end : ℕ) (files : List File) → unit + length files ≤ end
    → All (IsBelow end) (typing.files_refusals tables before unit files)
typed_below tables before unit end [] fits = All-nil (IsBelow end)
typed_below tables before unit end (file ∷ files) fits =
    All-append (IsBelow end) _ _ (in_file unit end _ (omega arith))
    (typed_below tables (joined before (declared_by file.items)) (suc unit) end files (omega arith))

lowered_below : (tables : Tables) (unit end : ℕ) (files : List File) → unit + length files ≤ end
    → All (IsBelow end) (lowering.files_refusals tables unit files)
lowered_below tables unit end [] fits = All-nil (IsBelow end)
lowered_below tables unit end (file ∷ files) fits =
    All-append (IsBelow end) _ _ (in_file unit end _ (omega arith)) (lowered_below tables (suc unit) end files (omega arith))

pub typed-within : HaveFirst → (files : List File) (at : At) → first_refusal files ≡ Some at → at.unit < length files
typed-within first files at is =
    All-contains (IsBelow (length files)) (refusals_of files) at
    (typed_below (tables_of files) no_tables 0 (length files) files (omega arith)) (first.listed (refusals_of files) at is)

pub lowered-within : HaveFirst → (files : List File) (at : At) → first_too_large files ≡ Some at → at.unit < length files
lowered-within first files at is =
    All-contains (IsBelow (length files)) (lowering.files_refusals (tables_of files) 0 files) at
    (lowered_below (tables_of files) 0 (length files) files (omega arith))
    (first.listed (lowering.files_refusals (tables_of files) 0 files) at is)

-- WHAT LOWERING ASKS OF A FILE

lowerable : HaveTexts → (files : List KeptFile) (units : List UnitValue) (most : ℕ) → most < 4294967295 → bytes_of (sources_of files) ≤ most
    → AreUnits files units
    → All IsLowerable (map unit_tree units)
lowerable texts [] [] most small short are = All-nil IsLowerable
lowerable texts [] (unit ∷ units) most small short are = absurd are
lowerable texts (kept ∷ files) [] most small short are = absurd are
lowerable texts (kept ∷ files) (unit ∷ units) most small short are =
    let all = sum_by-cons text_length kept.file (sources_of files) in
    let parsed = texts kept.file.bytes are.0.tokens (unit_tree unit) (omega (arith, all)) are.0.has are.0.spells in
    All-cons IsLowerable (unit_tree unit) (map unit_tree units) (record { numbers = parsed.numbers; fields = parsed.fields })
    (lowerable texts files units most small (omega (arith, all)) are.1)

pub units-lowerable : HaveTexts → (files : List KeptFile) (units : List UnitValue) → AreFiles (sources_of files) → AreUnits files units
    → All IsLowerable (map unit_tree units)
units-lowerable texts files units fine are = lowerable texts files units MOST_BYTES (omega arith) fine.short are

pub lowerable-numbers : (files : List File) → All IsLowerable files → All FileHasIntNumbers files
lowerable-numbers files are = All-weaker IsLowerable FileHasIntNumbers (λ file is. is.numbers) files are

pub lowerable-fields : (files : List File) → All IsLowerable files → All HasCountableFields files
lowerable-fields files are = All-weaker IsLowerable HasCountableFields (λ file is. is.fields) files are

-- PROGRAMS

pub none_of_three : {A : Type 0} (one other third : Option A) → option_or one (option_or other third) ≡ None
    → (one ≡ None) × (other ≡ None) × (third ≡ None)
none_of_three None None third is = (refl, refl, is)
none_of_three None (Some x) third is = cc
none_of_three (Some x) other third is = cc

pub mapped_none : {A B : Type 0} (f : A → B) (one : Option A) → option_map f one ≡ None → one ≡ None
mapped_none f None is = refl
mapped_none f (Some x) is = cc

-- a list that lacks a place is no longer than that
no_place : {A : Type 0} (xs : List A) (place : ℕ) → slice_get xs place ≡ None → length xs ≤ place
no_place {A} xs place is = by ((slice_get_cases xs place).1)
  where
    by : ((x : A) × (place < length xs) × (slice_get xs place ≡ Some x) × (get_or xs place x ≡ x))
        ⊎ ((length xs ≤ place) × (slice_get xs place ≡ None)) → length xs ≤ place
    by (inl (x, inside, there, same)) = let clash : None ≡ Some x = sym is ∙ there in cc
    by (inr (past, none)) = past

-- where no text is refused, each is a tree
all_trees : (files : List SourceFile) (readings : List Reading) → AreReadings files readings
    → first_refused token_refusal files readings ≡ None
    → first_refused syntax_refusal files readings ≡ None → AreTrees files (trees_of readings)
all_trees [] [] are none nor = tt
all_trees [] (r ∷ rs) are none nor = absurd are
all_trees (file ∷ files) [] are none nor = absurd are
all_trees (file ∷ files) (NoTokens r ∷ rs) are none nor = cc
all_trees (file ∷ files) (NoFile r ∷ rs) are none nor = cc
all_trees (file ∷ files) (Tree tree ∷ rs) are none nor = (are.0, all_trees files rs are.1 none nor)

trees_long : (files : List SourceFile) (trees : List File) → AreTrees files trees → length (names_of files) ≡ length trees
trees_long [] [] are = refl
trees_long [] (tree ∷ trees) are = absurd are
trees_long (file ∷ files) [] are = absurd are
trees_long (file ∷ files) (tree ∷ trees) are = ap suc (trees_long files trees are.1)

module _ (first : HaveFirst) (texts : HaveTexts) (well_formed : HaveWellFormed) where
  named : (files : List SourceFile) (trees : List File) (most : ℕ) → most < 4294967295 → bytes_of files ≤ most → AreTrees files trees
      → All IsText trees
  named [] [] most small short are = All-nil IsText
  named [] (tree ∷ trees) most small short are = absurd are
  named (file ∷ files) [] most small short are = absurd are
  named (file ∷ files) (tree ∷ trees) most small short are =
      let all = sum_by-cons text_length file files in
      All-cons IsText tree trees (texts file.bytes are.0.tokens tree (omega (arith, all)) are.0.has are.0.spells).text
      (named files trees most small (omega (arith, all)) are.1)

  formed : (files : List SourceFile) (trees : List File) → AreFiles files → AreTrees files trees
      → whole_refusal (names_of files) trees ≡ None → IsProgram (program_of (names_of files) trees)
  formed files trees fine are accepted =
      let none =
      none_of_three (option_map (refused_at (names_of files)) (first_refusal trees))
      (option_map (refused_at (names_of files)) (first_too_large trees))
      (option_map refused_proc (slice_get (program_of (names_of files) trees).procs MOST_PROCEDURES)) accepted in
      let typed : IsWellTyped trees =
      first.empty (refusals_of trees) (mapped_none (refused_at (names_of files)) (first_refusal trees) none.0) in
      let small = mapped_none (refused_at (names_of files)) (first_too_large trees) none.1 in
      let procs =
      no_place (program_of (names_of files) trees).procs MOST_PROCEDURES
      (mapped_none refused_proc (slice_get (program_of (names_of files) trees).procs MOST_PROCEDURES) none.2) in
      let structs = files_structs files trees are in
      let short : bytes_of files ≤ MOST_BYTES = fine.short in
      well_formed (names_of files) trees typed small (named files trees MOST_BYTES (omega arith) short are) (trees_long files trees are)
      (omega arith) (omega arith)

  pub answers-formed : (files : List SourceFile) (program : Program) → AreFiles files → Reads files (Ok program) → IsProgram program
  answers-formed files program fine reads = by (refusal_of files reads.readings) refl reads.means
    where
      by : (found : Option Refused) → refusal_of files reads.readings ≡ found → Ok program ≡ answer_of files reads.readings
          → IsProgram program
      by None accepted means =
          let none = none_of_three (first_refused token_refusal files reads.readings) (first_refused syntax_refusal files reads.readings)
          (whole_refusal (names_of files) (trees_of reads.readings)) accepted in
          let are = all_trees files reads.readings reads.read none.0 none.1 in
          let told : Ok program ≡ Ok (program_of (names_of files) (trees_of reads.readings)) = rw accepted at means in
          let same : program ≡ program_of (names_of files) (trees_of reads.readings) = cc in
          subst IsProgram (sym same) (formed files (trees_of reads.readings) fine are none.2)
      by (Some refused) accepted means =
          let never : Ok program ≡ Err refused = rw accepted at means in
          cc
