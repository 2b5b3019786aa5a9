-- Programs in which nothing is refused are well formed.
use Rattle.std.proofs.Common.{◌≡◌, ℕ, suc, ◌+◌, ◌-◌, ◌<◌, Bool, true, false, cond, List, [], ◌∷◌, ◌++◌, length, map, refl, arith, subst}
use Rattle.std.proofs.Common.{sym, ap, ◌∙◌}
use Rattle.std.specs.Prelude.{Some, IfSome, All, not}
use Rattle.std.specs.List.{AllByRecursion}
use Rattle.std.specs.Str.{bytes_eq}
use Rattle.std.proofs.lemmas.List.{map-append, length-map, append_assoc}
use Rattle.std.proofs.lemmas.List.Elements.{All-from_recursion, recursion_from_All}
use Rattle.shape_data.specs.declared.program.Cmd.{Cmd}
use Rattle.shape_data.specs.declared.program.Cmd.TheVariants as cmd
use Rattle.shape_data.specs.declared.program.Node.{Node}
use Rattle.shape_data.specs.declared.program.Proc.{Proc}
use Rattle.shape_data.specs.declared.program.StructDef.{StructDef}
use Rattle.shape_data.specs.Names.{IsCName}
use Rattle.shape_data.specs.WellFormed.{IsCountable, IsFlow, FitsCall, HasLines}
use Rattle.c_grammar.specs.declared.tokens.places.Place.{Place}
use Rattle.c_grammar.specs.Trees.{Head, Stmts, Item, File}
use Rattle.c_grammar.specs.FirstPlaces.{place_of_head}
use Rattle.c_types_rules.specs.Types.{unless, SECOND}
use Rattle.c_types_rules.specs.Tables.{Tables, Procedure, procedure_in, declared_by, items_of, no_tables}
use Rattle.c_types_rules.specs.Items.{listed, param_names, procedure_refusals, definitions, is_defined_before, unnamed_refusals}
use Rattle.c_types_rules.specs.Programs.{in_unit, tables_of, structs_of}
use Rattle.c_types_rules.proofs.First.{have_first}
use Rattle.c_types_rules.proofs.KnownTables.{nil_left, nil_right, all_append, IsAccepted, SoundTables, tables_sound}
use Rattle.c_types_rules.proofs.KnownPrograms.{nothing_mapped, files_accepted}
use Rattle.c_lower_rules.specs.Code.{onto}
use Rattle.c_lower_rules.specs.Programs.{name_text, at_body, lowered_body, slot_types, item_refusals, items_refusals, files_refusals}
use Rattle.c_lower_rules.specs.Programs.{item_procs, items_procs, files_procs}
use Rattle.c_lower_rules.specs.Statements.{stmts_kinds}
use Rattle.c_lower_rules.specs.Texts.{IsItemNamed, IsHeadNamed, AreItemLines, IsText}
use Rattle.c_lower_rules.specs.Laws.{HaveWellFormed}
use Rattle.c_lower_rules.proofs.Pieces.{FitsFirst, AreGood}
use Rattle.c_lower_rules.proofs.Uses.{world}
use Rattle.c_lower_rules.proofs.Exprs.{Fits}
use Rattle.c_lower_rules.proofs.Different.{Distinct, different_names, equal}
use Rattle.c_lower_rules.proofs.Structures.{structures_fine, structs_good, tags_of, kind_there, fields_there}
use Rattle.c_lower_rules.proofs.Marked.{marked_keeps}
use Rattle.c_lower_rules.proofs.Procedures.{IsSettled, defined_by, definitions_of, program_definitions}
use Rattle.c_lower_rules.proofs.Flows.{IsFineDefinition, named_count, nodes_good, flow_good}

-- NOTHING IS TOO LARGE

sizes_append : (tables : Tables) (xs ys : List Item) → items_refusals tables xs ≡ [] → items_refusals tables ys ≡ []
    → items_refusals tables (xs ++ ys) ≡ []
sizes_append tables [] ys e f = f
sizes_append tables (x ∷ xs) ys e f = rw (nil_left (item_refusals tables x) _ e) (sizes_append tables xs ys (nil_right _ _ e) f)

pub sizes_flat : (tables : Tables) (unit : ℕ) (files : List File) → files_refusals tables unit files ≡ []
    → items_refusals tables (items_of files) ≡ []
sizes_flat tables unit [] e = refl
sizes_flat tables unit (file ∷ files) e =
    sizes_append tables file.items (items_of files) (nothing_mapped (in_unit unit) (items_refusals tables file.items) (nil_left _ _ e))
    (sizes_flat tables (suc unit) files (nil_right _ _ e))

-- ALL ITEMS

texts_names : (files : List File) → AllByRecursion IsText files → AllByRecursion IsItemNamed (items_of files)
texts_names [] h = tt
texts_names (file ∷ files) h =
    all_append IsItemNamed file.items (items_of files) (recursion_from_All IsItemNamed file.items h.0.names) (texts_names files h.1)

texts_lines : (files : List File) → AllByRecursion IsText files → AllByRecursion AreItemLines (items_of files)
texts_lines [] h = tt
texts_lines (file ∷ files) h =
    all_append AreItemLines file.items (items_of files) (recursion_from_All AreItemLines file.items h.0.lines) (texts_lines files h.1)

-- PROCEDURES THAT ARE DECLARED

abbrev IsNamedProcedure : Procedure → Type 0
IsNamedProcedure p = IsHeadNamed p.head

procedures_named : (all : List Item) → AllByRecursion IsItemNamed all → AllByRecursion IsNamedProcedure (declared_by all).procedures
procedures_named [] h = tt
procedures_named (Item.StructItem place tag lines ∷ others) h = procedures_named others h.1
procedures_named (Item.TypedefStruct place tag lines alias ∷ others) h = procedures_named others h.1
procedures_named (Item.TypedefAlias place tag alias ∷ others) h = procedures_named others h.1
procedures_named (Item.Prototype head ∷ others) h = (h.0, procedures_named others h.1)
procedures_named (Item.Definition head place body end ∷ others) h = (h.0, procedures_named others h.1)

procedure_named : (all : List Procedure) → AllByRecursion IsNamedProcedure all → (n : List ℕ)
    → IfSome (procedure_in all n) (λ f. IsCName n × IsCountable (listed f.head.params))
procedure_named [] h n = tt
procedure_named (first ∷ others) h n = by_test (bytes_eq first.head.declarator.name.text n) refl (procedure_named others h.1 n)
  where
    by_test : (b : Bool) → bytes_eq first.head.declarator.name.text n ≡ b
        → IfSome (procedure_in others n) (λ f. IsCName n × IsCountable (listed f.head.params))
        → IfSome (cond b (Some first) (procedure_in others n)) (λ f. IsCName n × IsCountable (listed f.head.params))
    by_test true e k = (subst IsCName (equal first.head.declarator.name.text n e) h.0.name, h.0.countable)
    by_test false e k = k

-- EACH DEFINITION

abbrev IsFineItem : Tables → Item → Type 0
IsFineItem tables (Item.Definition head place body end) = IsFineDefinition tables head body end
IsFineItem tables _ = Unit {0}

definition_fine : (tables : Tables) (head : Head) (place : Place) (body : Stmts) (end : Place)
    → IsAccepted tables (Item.Definition head place body end) → IsHeadNamed head
    → AreItemLines (Item.Definition head place body end) → item_refusals tables (Item.Definition head place body end) ≡ []
    → IsFineDefinition tables head body end
definition_fine tables head place body end h n l s =
    let before = h.0 in
    let declared = procedure_refusals tables before (definitions false before.procedures) head in
    let repeated = unless (not (is_defined_before before head)) head.declarator.name.place SECOND in
    let unnamed = nil_right repeated _ (nil_right declared _ h.1) in
    record {
      head = nil_left _ _ (nil_left _ _ (nil_left declared _ h.1));
      unnamed = nil_left (unnamed_refusals (listed head.params)) _ unnamed;
      body = nil_right (unnamed_refusals (listed head.params)) _ unnamed;
      sizes = s;
      names = n;
      first = l.0;
      lines = l.1;
      last = l.2;
    }

items_fine : (tables : Tables) (all : List Item) → AllByRecursion (IsAccepted tables) all → AllByRecursion IsItemNamed all
    → AllByRecursion AreItemLines all → items_refusals tables all ≡ []
    → AllByRecursion (IsFineItem tables) all
items_fine tables [] h n l s = tt
items_fine tables (Item.StructItem place tag lines ∷ others) h n l s = (tt, items_fine tables others h.1 n.1 l.1 (nil_right _ _ s))
items_fine tables (Item.TypedefStruct place tag lines alias ∷ others) h n l s = (tt, items_fine tables others h.1 n.1 l.1 (nil_right _ _ s))
items_fine tables (Item.TypedefAlias place tag alias ∷ others) h n l s = (tt, items_fine tables others h.1 n.1 l.1 s)
items_fine tables (Item.Prototype head ∷ others) h n l s = (tt, items_fine tables others h.1 n.1 l.1 s)
items_fine tables (Item.Definition head place body end ∷ others) h n l s = (
  definition_fine tables head place body end h.0 n.0 l.0 (nil_left _ _ s),
  items_fine tables others h.1 n.1 l.1
      (nil_right (item_refusals tables (Item.Definition head place body end)) _ s),
)

abbrev IsSettledItem : List Procedure → Item → Type 0
IsSettledItem all (Item.Definition head place body end) = IsSettled all head
IsSettledItem all _ = Unit {0}

items_settled : (procs : List Procedure) (all : List Item) → AllByRecursion (IsSettled procs) (definitions_of all)
    → AllByRecursion (IsSettledItem procs) all
items_settled procs [] h = tt
items_settled procs (Item.StructItem place tag lines ∷ others) h = (tt, items_settled procs others h)
items_settled procs (Item.TypedefStruct place tag lines alias ∷ others) h = (tt, items_settled procs others h)
items_settled procs (Item.TypedefAlias place tag alias ∷ others) h = (tt, items_settled procs others h)
items_settled procs (Item.Prototype head ∷ others) h = (tt, items_settled procs others h)
items_settled procs (Item.Definition head place body end ∷ others) h = (h.0, items_settled procs others h.1)

-- EACH PROCEDURE OF THE PROGRAM

all_front : {A : Type 0} (P : A → Type 0) (xs ys : List A) → AllByRecursion P (xs ++ ys) → AllByRecursion P xs
all_front P [] ys h = tt
all_front P (x ∷ xs) ys h = (h.0, all_front P xs ys h.1)

all_behind : {A : Type 0} (P : A → Type 0) (xs ys : List A) → AllByRecursion P (xs ++ ys) → AllByRecursion P ys
all_behind P [] ys h = h
all_behind P (x ∷ xs) ys h = all_behind P xs ys h.1

abbrev Gives : Tables → (Proc → Type 0) → (Item → Type 0) → Type 0
Gives tables P Q = (file : List ℕ) (one : Item) → Q one → AllByRecursion P (item_procs tables file one)

items_procs_all : (tables : Tables) (P : Proc → Type 0) (Q : Item → Type 0) → Gives tables P Q → (file : List ℕ) (all : List Item)
    → AllByRecursion Q all → AllByRecursion P (items_procs tables file all)
items_procs_all tables P Q gives file [] h = tt
items_procs_all tables P Q gives file (first ∷ others) h =
    all_append P (item_procs tables file first) (items_procs tables file others) (gives file first h.0)
    (items_procs_all tables P Q gives file others h.1)

procs_all : (tables : Tables) (P : Proc → Type 0) (Q : Item → Type 0) → Gives tables P Q → (names : List (List ℕ)) (files : List File)
    → AllByRecursion Q (items_of files)
    → AllByRecursion P (files_procs tables names files)
procs_all tables P Q gives [] files h = tt
procs_all tables P Q gives (name ∷ names) [] h = tt
procs_all tables P Q gives (name ∷ names) (file ∷ files) h =
    all_append P (items_procs tables name file.items) (files_procs tables names files)
    (items_procs_all tables P Q gives name file.items (all_front Q file.items (items_of files) h))
    (procs_all tables P Q gives names files (all_behind Q file.items (items_of files) h))

-- the first procedure of its name has as many parameters
record HasArity (tables : Tables) (p : Proc) : Type 0 where
  first : Procedure
  found : procedure_in tables.procedures p.flow.name ≡ Some first
  fits : length (listed first.head.params) ≡ length p.flow.params

record IsGoodProc (structs : List StructDef) (tables : Tables) (p : Proc) : Type 0 where
  flow : IsFlow structs p.flow
  lines : HasLines p
  arity : HasArity tables p
  calls : All (λ (n : Node). FitsFirst tables n.cmd) p.flow.nodes

record IsGoodItem (tables : Tables) (one : Item) : Type 0 where
  fine : IsFineItem tables one
  settled : IsSettledItem tables.procedures one

lines_good : (first : ℕ) (nodes : List Node) → first < 4294967296 → All (λ (n : Node). n.line < 4294967296 - first) nodes
    → All (λ (n : Node). first + n.line < 4294967296) nodes
lines_good first nodes lt h = λ k d below. let one = h k d below in omega arith

proc_good : (structs : List StructDef) (tables : Tables) → Fits structs tables → SoundTables tables
    → Gives tables (IsGoodProc structs tables) (IsGoodItem tables)
proc_good structs tables fits sound file (Item.Definition head place body end) h =
    let l = lowered_body tables head body end in
    let slots = slot_types tables head body l.behind.temps in
    let nodes = l.code.nodes 0 (onto 0) in
    let w = world structs (at_body tables head (length (stmts_kinds tables body))) in
    let good : AreGood w (length slots) l.code.size nodes = nodes_good structs tables fits sound head body end h.fine in
    let count = named_count (listed head.params) h.fine.unnamed in
    let texts_count = length-map (param_names (listed head.params)) name_text in
    let settled = h.settled in
    let same = settled.fits in (
      record {
        flow = flow_good structs tables fits sound head body end h.fine;
        lines = lines_good (place_of_head head).line _ h.fine.first
            (marked_keeps (λ (n : Node). n.line < 4294967296 - (place_of_head head).line)
            (λ n m e f k. subst (λ line. line < 4294967296 - (place_of_head head).line) f k) slots nodes (l.code.loops 0) 0 nodes
            (λ k d below. (good k d below).1));
        arity = record { first = settled.first; found = settled.found; fits = omega arith };
        calls =
            marked_keeps (λ (n : Node). FitsFirst tables n.cmd) (λ n m e f k. subst (λ c. FitsFirst tables c) e k) slots nodes
            (l.code.loops 0) 0 nodes
            (λ k d below. (good k d below).0.1);
      },
      tt,
    )
proc_good structs tables fits sound file (Item.StructItem place tag lines) h = tt
proc_good structs tables fits sound file (Item.TypedefStruct place tag lines alias) h = tt
proc_good structs tables fits sound file (Item.TypedefAlias place tag alias) h = tt
proc_good structs tables fits sound file (Item.Prototype head) h = tt

-- CALLS

fits_call : (tables : Tables) (procs : List Proc) → All (HasArity tables) procs → (c : Cmd) → FitsFirst tables c
    → FitsCall (λ (one : Proc). one.flow.name) (λ (one : Proc). one.flow.params) procs c
fits_call tables procs h (cmd.Call to callee args next) f = λ k d below e.
    let arity = h k d below in
    let first : IfSome (Some arity.first) (λ found. length (listed found.head.params) ≡ length args) =
    subst (λ found. IfSome found (λ p. length (listed p.head.params) ≡ length args))
    (ap (λ n. procedure_in tables.procedures n) (sym e) ∙ arity.found) f in
    let fits = arity.fits in
    omega arith
fits_call tables procs h (cmd.Copy to from next) f = tt
fits_call tables procs h (cmd.Arith to op left right next) f = tt
fits_call tables procs h (cmd.Any to ty next) f = tt
fits_call tables procs h (cmd.Load to base kind field next) f = tt
fits_call tables procs h (cmd.Store base kind field from next) f = tt
fits_call tables procs h (cmd.New to kind next) f = tt
fits_call tables procs h (cmd.Free base kind next) f = tt
fits_call tables procs h (cmd.Branch op pointers left right on_true on_false) f = tt
fits_call tables procs h (cmd.Return value) f = tt

-- NAMES

abbrev head_name : Head → List ℕ
head_name head = head.declarator.name.text

abbrev proc_name : Proc → List ℕ
proc_name p = p.flow.name

definitions_append : (xs ys : List Item) → definitions_of (xs ++ ys) ≡ definitions_of xs ++ definitions_of ys
definitions_append [] ys = refl
definitions_append (x ∷ xs) ys =
    ap (λ r. defined_by x ++ r) (definitions_append xs ys) ∙ sym (append_assoc (defined_by x) (definitions_of xs) (definitions_of ys))

item_names : (tables : Tables) (file : List ℕ) (one : Item) → map proc_name (item_procs tables file one) ≡ map head_name (defined_by one)
item_names tables file (Item.StructItem place tag lines) = refl
item_names tables file (Item.TypedefStruct place tag lines alias) = refl
item_names tables file (Item.TypedefAlias place tag alias) = refl
item_names tables file (Item.Prototype head) = refl
item_names tables file (Item.Definition head place body end) = refl

items_names : (tables : Tables) (file : List ℕ) (all : List Item)
    → map proc_name (items_procs tables file all) ≡ map head_name (definitions_of all)
items_names tables file [] = refl
items_names tables file (first ∷ others) =
    map-append proc_name (item_procs tables file first) (items_procs tables file others)
    ∙ ap (λ r. r ++ map proc_name (items_procs tables file others)) (item_names tables file first)
    ∙ ap (λ r. map head_name (defined_by first) ++ r) (items_names tables file others)
    ∙ sym (map-append head_name (defined_by first) (definitions_of others))

files_names : (tables : Tables) (names : List (List ℕ)) (files : List File) → length names ≡ length files
    → map proc_name (files_procs tables names files) ≡ map head_name (definitions_of (items_of files))
files_names tables [] [] e = refl
files_names tables (name ∷ names) [] e = absurd (cc)
files_names tables [] (file ∷ files) e = absurd (cc)
files_names tables (name ∷ names) (file ∷ files) e =
    map-append proc_name (items_procs tables name file.items) (files_procs tables names files)
    ∙ ap (λ r. r ++ map proc_name (files_procs tables names files)) (items_names tables name file.items)
    ∙ ap (λ r. map head_name (definitions_of file.items) ++ r) (files_names tables names files (omega arith))
    ∙ sym (ap (map head_name) (definitions_append file.items (items_of files))
    ∙ map-append head_name (definitions_of file.items) (definitions_of (items_of files)))

-- PROGRAMS

both_good : (tables : Tables) (all : List Item) → AllByRecursion (IsFineItem tables) all
    → AllByRecursion (IsSettledItem tables.procedures) all → AllByRecursion (IsGoodItem tables) all
both_good tables [] h k = tt
both_good tables (first ∷ others) h k = (record { fine = h.0; settled = k.0 }, both_good tables others h.1 k.1)

pub have_well_formed : HaveWellFormed
have_well_formed names files typed sizes texts count structs_count procs_count =
    let tables = tables_of files in
    let all = items_of files in
    let accepted = files_accepted tables no_tables 0 files typed in
    let written = recursion_from_All IsText files texts in
    let named = texts_names files written in
    let lines = texts_lines files written in
    let small = sizes_flat tables 0 files (have_first.empty _ sizes) in
    let sound = tables_sound all accepted in
    let fine = structures_fine tables all accepted named small sound.structures in
    let tags = tags_of tables fine in
    let fits : Fits (structs_of files) tables = record {
      tags = tags;
      kinds = kind_there tables;
      fields = fields_there tables;
      procedures = procedure_named tables.procedures (procedures_named all named);
    } in
    let declared = program_definitions files typed in
    let items =
    both_good tables all (items_fine tables all accepted named lines small) (items_settled tables.procedures all declared.settled) in
    let procs = files_procs tables names files in
    let good =
    procs_all tables (IsGoodProc (structs_of files) tables) (IsGoodItem tables)
    (proc_good (structs_of files) tables fits sound) names files items in
    let each = All-from_recursion (IsGoodProc (structs_of files) tables) procs good in
    record {
      structs = structs_good tables tags tables.structures fine structs_count;
      countable = procs_count;
      flows = λ k d below. (each k d below).flow;
      lines = λ k d below. (each k d below).lines;
      different = different_names proc_name procs (subst Distinct (sym (files_names tables names files count)) declared.distinct);
      calls = λ k d below i e lt. fits_call tables procs (λ j f under. (each j f under).arity) _ ((each k d below).calls i e lt);
    }
