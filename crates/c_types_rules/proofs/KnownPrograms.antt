-- Where nothing is refused in a program, the type of each of its expressions is known.
use Rattle.std.proofs.Common.{◌≡◌, ℕ, suc, false, List, [], ◌∷◌, refl}
use Rattle.std.specs.Prelude.{not, Option, Some, None, map}
use Rattle.std.specs.List.{AllByRecursion}
use Rattle.std.proofs.lemmas.List.Elements.{All-from_recursion}
use Rattle.c_grammar.specs.Trees.{Name, Param, Head, Stmts, Item, File}
use Rattle.c_types_rules.specs.Types.{IsKnown, unless, SECOND}
use Rattle.c_types_rules.specs.Tables.{Tables, declares, declared_by, joined, items_of, no_tables, param_kind, kind_of_result}
use Rattle.c_types_rules.specs.Scopes.{Variable}
use Rattle.c_types_rules.specs.Items.{each_param_refusals, listed, with_name, head_refusals, procedure_refusals, definitions}
use Rattle.c_types_rules.specs.Items.{is_defined_before, unnamed_refusals, param_variable, param_variables, body, item}
use Rattle.c_types_rules.specs.Programs.{items, in_unit, files_refusals, tables_of, kinds_of}
use Rattle.c_types_rules.specs.Laws.{HaveKnown}
use Rattle.c_types_rules.proofs.KnownTables.{nil_left, nil_right, holds, all_append, IsSound, IsAccepted, SoundTables, object_sound}
use Rattle.c_types_rules.proofs.KnownTables.{tables_sound}
use Rattle.c_types_rules.proofs.KnownExprs.{AreKnown, IsVariableSound}
use Rattle.c_types_rules.proofs.KnownStmts.{Fine, stmts_fine}

-- PROCEDURES

param_sound : (tables : Tables) (p : Param) (n : Option Name) (behind : List Variable) → IsSound tables (param_kind tables p)
    → AllByRecursion (IsVariableSound tables) behind
    → AllByRecursion (IsVariableSound tables) (param_variable tables p n behind)
param_sound tables p None behind h k = k
param_sound tables p (Some n) behind h k = (h, k)

pub params_sound : (tables : Tables) → SoundTables tables → (before : List Name) (all : List Param) (behind : List Variable)
    → each_param_refusals tables before all ≡ []
    → AllByRecursion (IsVariableSound tables) behind
    → AllByRecursion (IsVariableSound tables) (param_variables tables all behind)
params_sound tables known before [] behind e h = h
params_sound tables known before (first ∷ others) behind e h =
    let accepted = nil_left _ _ e in
    params_sound tables known (with_name first.name before) others (param_variable tables first first.name behind) (nil_right _ _ e)
    (param_sound tables first first.name behind
    (object_sound tables known.aliases first.specifier first.stars (nil_left _ _ (nil_left _ _ accepted))
    (holds _ _ _ (nil_right _ _ accepted))) h)

body_fine : (tables : Tables) → SoundTables tables → (head : Head) (statements : Stmts) → head_refusals tables head ≡ []
    → Fine (body tables head statements)
body_fine tables known head statements e =
    let variables = param_variables tables (listed head.params) [] in
    stmts_fine (record { tables = tables; scopes = record { here = variables; around = [] } })
    (record {
      tables = known;
      variables =
          all_append (IsVariableSound tables) variables []
          (params_sound tables known [] (listed head.params) [] (nil_right _ _ (nil_left _ _ e)) tt) tt;
    })
    (kind_of_result tables head) false statements

-- ITEMS

-- which types are found does not rest on what is declared before
item_known : (tables : Tables) → SoundTables tables → (before other : Tables) (one : Item) → (item tables before one).refusals ≡ []
    → AreKnown (item tables other one).kinds
item_known tables known before other (Item.Definition head place statements end) e =
    let repeated = unless (not (is_defined_before before head)) head.declarator.name.place SECOND in
    let accepted =
    nil_right (unnamed_refusals (listed head.params)) _
    (nil_right repeated _ (nil_right (procedure_refusals tables before (definitions false before.procedures) head) _ e)) in
    body_fine tables known head statements (nil_left _ _ (nil_left _ _ (nil_left _ _ e))) accepted
item_known tables known before other one e = tt

items_known : (tables : Tables) → SoundTables tables → (before : Tables) (all : List Item) → AllByRecursion (IsAccepted tables) all
    → AreKnown (items tables before all).kinds
items_known tables known before [] h = tt
items_known tables known before (first ∷ others) h =
    all_append IsKnown (item tables before first).kinds (items tables (joined before (declares first)) others).kinds
    (item_known tables known h.0.0 before first h.0.1)
    (items_known tables known (joined before (declares first)) others h.1)

-- FILES

pub nothing_mapped : {A B : Type 0} (f : A → B) (xs : List A) → map f xs ≡ [] → xs ≡ []
nothing_mapped f [] e = refl
nothing_mapped f (x ∷ xs) e = absurd (cc)

pub items_accepted : (tables before : Tables) (all : List Item) → (items tables before all).refusals ≡ []
    → AllByRecursion (IsAccepted tables) all
items_accepted tables before [] e = tt
items_accepted tables before (first ∷ others) e =
    ((before, nil_left _ _ e), items_accepted tables (joined before (declares first)) others (nil_right _ _ e))

pub files_accepted : (tables before : Tables) (unit : ℕ) (files : List File) → files_refusals tables before unit files ≡ []
    → AllByRecursion (IsAccepted tables) (items_of files)
files_accepted tables before unit [] e = tt
files_accepted tables before unit (file ∷ files) e =
    all_append (IsAccepted tables) file.items (items_of files)
    (items_accepted tables before file.items (nothing_mapped (in_unit unit) (items tables before file.items).refusals (nil_left _ _ e)))
    (files_accepted tables (joined before (declared_by file.items)) (suc unit) files (nil_right _ _ e))

pub have_known : HaveKnown
have_known files e =
    let accepted = files_accepted (tables_of files) no_tables 0 files e in
    All-from_recursion IsKnown (kinds_of files)
    (items_known (tables_of files) (tables_sound (items_of files) accepted) no_tables (items_of files) accepted)
