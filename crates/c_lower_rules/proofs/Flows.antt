-- Each procedure's flow is well formed.
use Rattle.std.proofs.Common.{◌≡◌, ℕ, zero, suc, ◌+◌, ◌<◌, ◌≤◌, true, false, List, [], ◌∷◌, ◌++◌, length, map, refl, arith, subst, sym, ap}
use Rattle.std.proofs.Common.{◌∙◌}
use Rattle.std.specs.Prelude.{Option, Some, None, All, pos, nat_le}
use Rattle.std.specs.List.{AllByRecursion}
use Rattle.std.proofs.lemmas.List.{length-append, length-map, append-nil}
use Rattle.std.proofs.lemmas.Bool.{leb-true}
use Rattle.std.proofs.lemmas.List.Elements.{All-nil, All-from_recursion, recursion_from_All}
use Rattle.shape_data.specs.declared.program.Cmd.{Cmd}
use Rattle.shape_data.specs.declared.program.Cmd.TheVariants as cmd
use Rattle.shape_data.specs.declared.program.Operand.TheVariants.{Slot, Num}
use Rattle.shape_data.specs.declared.program.StructDef.{StructDef}
use Rattle.shape_data.specs.declared.program.TestOp.TheVariants as op
use Rattle.shape_data.specs.declared.program.Ty.{Ty}
use Rattle.shape_data.specs.declared.program.Ty.TheVariants.{Int, Ptr, Void}
use Rattle.shape_data.specs.Names.{IsCName}
use Rattle.shape_data.specs.WellFormed.{IsTy, AreParams, IsNode, IsFlow}
use Rattle.c_grammar.specs.declared.tokens.places.Place.{Place}
use Rattle.c_grammar.specs.Trees.{Name, Param, Head, Stmts}
use Rattle.c_grammar.specs.FirstPlaces.{place_of_head}
use Rattle.c_types_rules.specs.Types.{unless}
use Rattle.c_types_rules.specs.Tables.{Tables, param_kind, kind_of_result}
use Rattle.c_types_rules.specs.Scopes.{Variable, Env}
use Rattle.c_types_rules.specs.Items as typing
use Rattle.c_types_rules.specs.Items.{listed, param_names, with_name, has_name, unnamed_refusals, twice, each_param_refusals, head_refusals}
use Rattle.c_types_rules.specs.Items.{param_variable, param_variables}
use Rattle.c_types_rules.specs.Programs.{known}
use Rattle.c_types_rules.proofs.KnownTables.{nil_left, nil_right, holds, all_append, SoundTables, object_sound, head_sound}
use Rattle.c_types_rules.proofs.KnownExprs.{IsVariableSound}
use Rattle.c_types_rules.proofs.KnownPrograms.{params_sound}
use Rattle.c_lower_rules.specs.Code.{onto, nothing, command, begun_at}
use Rattle.c_lower_rules.specs.Temporaries.{Temp, released, take_temp}
use Rattle.c_lower_rules.specs.Contexts.{Bound, Context, at_place}
use Rattle.c_lower_rules.specs.Values.{slot_taken}
use Rattle.c_lower_rules.specs.Statements.{State, Lowered, stmts, stmts_kinds}
use Rattle.c_lower_rules.specs.Marks.{marked}
use Rattle.c_lower_rules.specs.Programs.{bound_param, bound_params, param_types, result_type, at_body, any_value, closed_by, closed, opened}
use Rattle.c_lower_rules.specs.Programs.{lowered_body, temp_kind, slot_types, name_text, flow_of, size_refusals, MOST_NODES}
use Rattle.c_lower_rules.specs.Texts.{IsNamed, IsHeadNamed, IsLine, AreStmtsLines}
use Rattle.c_lower_rules.proofs.Pieces.{World, AreGood, IsCode, code_more, code_nothing, code_command, code_behind, test_branch}
use Rattle.c_lower_rules.proofs.Pieces.{code_choose}
use Rattle.c_lower_rules.proofs.Uses.{behind_both, taken_good, world}
use Rattle.c_lower_rules.proofs.Exprs.{Fits, AreBound, IsHere, known_ty}
use Rattle.c_lower_rules.proofs.Bodies.{GoodLowered, released_behind, stmts_good}
use Rattle.c_lower_rules.proofs.Different.{Distinct, map_of_all, different_names, twice_distinct}
use Rattle.c_lower_rules.proofs.Marked.{marked_in_range, marked_length}
use Rattle.c_lower_rules.proofs.Locals.{GivesTypes, stmts_types}

-- PARAMETERS

bound_params_good : (tables : Tables) (slots : ℕ) (all : List Param) (slot : ℕ) (vs : List Variable) (bs : List Bound)
    → AreBound slots vs bs → slot + length all ≤ slots
    → AreBound slots (param_variables tables all vs) (bound_params slot all bs)
bound_params_good tables slots [] slot vs bs h le = h
bound_params_good tables slots (first ∷ others) slot vs bs h le =
    bound_params_good tables slots others (suc slot) (param_variable tables first first.name vs) (bound_param slot first.name bs)
    (by_name first.name) (omega arith)
  where
    by_name : (n : Option Name) → AreBound slots (param_variable tables first n vs) (bound_param slot n bs)
    by_name None = h
    by_name (Some n) = (refl, omega arith, h)

pub named_count : (all : List Param) → unnamed_refusals all ≡ [] → length (param_names all) ≡ length all
named_count [] e = refl
named_count (first ∷ others) e = by_name first.name (holds _ _ _ (nil_left _ _ e)) (named_count others (nil_right _ _ e))
  where
    by_name : (n : Option Name) → has_name n ≡ true → length (param_names others) ≡ length others
        → length (with_name n (param_names others)) ≡ length (first ∷ others)
    by_name None f k = absurd (cc)
    by_name (Some n) f k = ap suc k

params_types : (tables : Tables) → GivesTypes tables → SoundTables tables → (before : List Name) (all : List Param)
    → each_param_refusals tables before all ≡ []
    → AllByRecursion IsTy (map (λ (p : Param). known (param_kind tables p)) all)
params_types tables gives sound before [] e = tt
params_types tables gives sound before (first ∷ others) e =
    let one = nil_left _ _ e in (
      gives (param_kind tables first)
          (object_sound tables sound.aliases first.specifier first.stars (nil_left _ _ (nil_left _ _ one))
          (holds _ _ _ (nil_right _ _ one))),
      params_types tables gives sound (with_name first.name before) others (nil_right _ _ e),
    )

-- WHAT CLOSES A BODY

record IsClosed (structs : List StructDef) (c : Context) (l : Lowered) : Type 0 where
  kinds : AllByRecursion (λ (t : Temp). IsTy t.kind) l.behind.temps
  code : IsCode (world structs c) (c.first_temp + length l.behind.temps) l.code
  some : 0 < l.code.size

all_types : (temps : List Temp) → All (λ (t : Temp). IsTy t.kind) temps → AllByRecursion (λ (t : Temp). IsTy t.kind) temps
all_types temps h = recursion_from_All (λ (t : Temp). IsTy t.kind) temps h

any_value_good : (structs : List StructDef) (before : State) (env : Env) (n : ℕ) (l : Lowered) → before.temps ≡ []
    → GoodLowered structs before env n l → (kind : Ty) → IsTy kind
    → (place : Place) → IsLine place → before.context.first_line < 4294967296
    → IsClosed structs before.context (any_value (at_place l.behind.context place) kind (take_temp kind (released l.behind.temps)) l)
any_value_good structs before env n l none h kind k place line first =
    let taken = taken_good kind k (released l.behind.temps) in
    let all =
    behind_both before.temps l.behind.temps _ h.temps
    (behind_both l.behind.temps (released l.behind.temps) _ (released_behind l.behind.temps) taken.behind) in
    let freed = (released_behind l.behind.temps).longer in
    let longer = taken.behind.longer in
    let there = taken.there in
    let temp_eq = h.frame.first_temp in
    let line_eq = h.frame.first_line in
    let w = world structs before.context in
    let slots = before.context.first_temp + length (take_temp kind (released l.behind.temps)).temps in
    let to = slot_taken (at_place l.behind.context place) (take_temp kind (released l.behind.temps)) in
    let here : to < slots = omega arith in
    let line_of = (at_place l.behind.context place).line in
    let any : ℕ → Cmd = cmd.Any to kind in
    let give : ℕ → Cmd = λ next. cmd.Return (Slot to) in
    record {
      kinds =
          all_types _ (all.kinds (subst (λ temps. All (λ (t : Temp). IsTy t.kind) temps) (sym none) (All-nil (λ (t : Temp). IsTy t.kind))));
      code = code_behind w slots l.code _ (code_more w _ slots (omega arith) l.code h.code)
          (code_behind w slots (command line_of any) (command line_of give)
          (code_command w slots line_of any (omega arith) (λ total next e. ((here, e, k), tt)))
          (code_command w slots line_of give (omega arith) (λ total next e. (here, tt))));
      some = omega arith;
    }

nothing_returned : (structs : List StructDef) (before : State) (env : Env) (n : ℕ) (l : Lowered) → before.temps ≡ []
    → GoodLowered structs before env n l
    → (place : Place) → IsLine place → before.context.first_line < 4294967296
    → IsClosed structs before.context (closed_by Void (at_place l.behind.context place) (released l.behind.temps) l)
nothing_returned structs before env n l none h place line first =
    let line_eq = h.frame.first_line in
    let w = world structs before.context in
    record {
      kinds =
          all_types _ (h.temps.kinds
          (subst (λ temps. All (λ (t : Temp). IsTy t.kind) temps) (sym none) (All-nil (λ (t : Temp). IsTy t.kind))));
      code = code_behind w _ l.code _ h.code (code_command w _ _ _ (omega arith) (λ total next e. (tt, tt)));
      some = omega arith;
    }

closed_good : (structs : List StructDef) (before : State) (env : Env) (n : ℕ) (l : Lowered) → before.temps ≡ []
    → GoodLowered structs before env n l → (result : Ty) → IsTy result
    → (place : Place) → IsLine place → before.context.first_line < 4294967296 → IsClosed structs before.context (closed result place l)
closed_good structs before env n l none h Void k place line first = nothing_returned structs before env n l none h place line first
closed_good structs before env n l none h Int k place line first = any_value_good structs before env n l none h Int k place line first
closed_good structs before env n l none h (Ptr tag) k place line first =
    any_value_good structs before env n l none h (Ptr tag) k place line first

-- a run begins at node 0
opened_good : (structs : List StructDef) (c : Context) → c.first_line < 4294967296 → (l : Lowered) → IsClosed structs c l
    → IsClosed structs c (opened l)
opened_good structs c first l h = by_entry (l.code.entry 0 (onto 0))
  where
    w : World
    w = world structs c

    slots : ℕ
    slots = c.first_temp + length l.behind.temps

    by_entry : (entry : ℕ) → IsClosed structs c (record l { code = begun_at entry l.code })
    by_entry zero = record { kinds = h.kinds; code = h.code; some = h.some }
    by_entry (suc entry) = let some = h.some in record {
      kinds = h.kinds;
      code = code_behind w slots _ l.code
          (code_choose w slots _ nothing nothing (test_branch w slots 0 op.Ne false (Num (pos 1)) (Num (pos 0)) (omega arith) tt tt)
          (code_nothing w slots) (code_nothing w slots)) h.code;
      some = omega arith;
    }

-- THE FLOW

-- a definition in which nothing is refused, and which is not too large
pub record IsFineDefinition (tables : Tables) (own : Head) (all : Stmts) (place : Place) : Type 0 where
  pub head : head_refusals tables own ≡ []
  pub unnamed : unnamed_refusals (listed own.params) ≡ []
  pub body : (typing.body tables own all).refusals ≡ []
  pub sizes : size_refusals tables own all (lowered_body tables own all place) ≡ []
  pub names : IsHeadNamed own
  pub first : IsLine (place_of_head own)
  pub lines : AreStmtsLines all
  pub last : IsLine place

at_body_here : (structs : List StructDef) (tables : Tables) → Fits structs tables → SoundTables tables → (head : Head)
    → head_refusals tables head ≡ [] → IsLine (place_of_head head) → (locals : ℕ)
    → IsHere structs (at_body tables head locals)
at_body_here structs tables fits sound head e line locals =
    let variables = param_variables tables (listed head.params) [] in
    let params = nil_right _ _ (nil_left _ _ e) in
    record {
      fits = fits;
      sound = record {
        tables = sound;
        variables = all_append (IsVariableSound tables) variables [] (params_sound tables sound [] (listed head.params) [] params tt) tt;
      };
      bound =
          subst (λ vs. AreBound (length (listed head.params) + locals) vs (bound_params 0 (listed head.params) []))
          (sym (append-nil variables))
          (bound_params_good tables (length (listed head.params) + locals) (listed head.params) 0 [] [] tt (omega arith));
      first = line;
      line = omega arith;
      result = known_ty structs tables fits (kind_of_result tables head) (head_sound tables sound.aliases head e);
    }

body_good : (structs : List StructDef) (tables : Tables) → Fits structs tables → SoundTables tables
    → (head : Head) (body : Stmts) (place : Place) → IsFineDefinition tables head body place
    → IsClosed structs (at_body tables head (length (stmts_kinds tables body))) (lowered_body tables head body place)
body_good structs tables fits sound head body place h =
    let locals = length (stmts_kinds tables body) in
    let start : State = record { temps = []; locals = 0; context = at_body tables head locals } in
    let here = at_body_here structs tables fits sound head h.head h.first locals in
    let all = stmts_good structs tables (kind_of_result tables head) false body start refl here h.lines (omega arith) h.body in
    opened_good structs (at_body tables head locals) h.first _
    (closed_good structs start all.0 locals (stmts body start) refl all.1 (result_type tables head) here.result place h.last h.first)

-- within the limits
pub record IsSmall (tables : Tables) (own : Head) (all : Stmts) (l : Lowered) : Type 0 where
  pub nodes : length (l.code.nodes 0 (onto 0)) ≤ 512
  pub locals : length (listed own.params) + length (stmts_kinds tables all) ≤ 32
  pub temps : length l.behind.temps ≤ 16
  pub params : length (listed own.params) ≤ 8

is_small : (tables : Tables) (own : Head) (all : Stmts) (l : Lowered) → size_refusals tables own all l ≡ [] → IsSmall tables own all l
is_small tables own all l e = record {
  nodes = leb-true _ _ (holds _ _ _ (nil_left _ _ (nil_left _ _ (nil_left _ _ e))));
  locals =
      leb-true _ _
      (holds _ _ _
      (nil_right (unless (nat_le (length (l.code.nodes 0 (onto 0))) MOST_NODES) (place_of_head own) 131) _
      (nil_left _ _ (nil_left _ _ e))));
  temps = leb-true _ _ (holds _ _ _ (nil_right _ _ (nil_left _ _ e)));
  params = leb-true _ _ (holds _ _ _ (nil_right _ _ e));
}

-- as many slots as there are types
slots_count : (tables : Tables) (own : Head) (all : Stmts) (temps : List Temp)
    → length (slot_types tables own all temps) ≡ length (listed own.params) + length (stmts_kinds tables all) + length temps
slots_count tables own all temps =
    rw (
      length-append (param_types tables own ++ stmts_kinds tables all) (map temp_kind temps),
      length-append (param_types tables own) (stmts_kinds tables all),
      length-map (listed own.params) (λ (p : Param). known (param_kind tables p)),
      length-map temps temp_kind,
    ) refl

texts : (all : List Name) → AllByRecursion IsNamed all → All IsCName (map name_text all)
texts all h = All-from_recursion IsCName (map name_text all) (map_of_all IsCName name_text all h)

same_texts : (all : List (List ℕ)) → map (λ n. n) all ≡ all
same_texts [] = refl
same_texts (n ∷ ns) = ap (λ r. n ∷ r) (same_texts ns)

params_good : (own : Head) → IsHeadNamed own → unnamed_refusals (listed own.params) ≡ [] → length (listed own.params) ≤ 8
    → twice [] (param_names (listed own.params)) ≡ []
    → AreParams (map name_text (param_names (listed own.params)))
params_good own named unnamed few different =
    let count = named_count (listed own.params) unnamed in
    let texts_count = length-map (param_names (listed own.params)) name_text in
    record {
      few = omega arith;
      names = texts (param_names (listed own.params)) (recursion_from_All IsNamed (param_names (listed own.params)) named.params);
      different = different_names (λ n. n) (map name_text (param_names (listed own.params)))
          (subst Distinct (sym (same_texts (map name_text (param_names (listed own.params)))))
          (twice_distinct [] (param_names (listed own.params)) different));
    }

temp_types : (temps : List Temp) → AllByRecursion (λ (t : Temp). IsTy t.kind) temps → AllByRecursion IsTy (map temp_kind temps)
temp_types temps h = map_of_all IsTy temp_kind temps h

-- what is good of a procedure's nodes, before they are marked
pub nodes_good : (structs : List StructDef) (tables : Tables) → Fits structs tables → SoundTables tables
    → (head : Head) (body : Stmts) (place : Place) → IsFineDefinition tables head body place
    → AreGood (world structs (at_body tables head (length (stmts_kinds tables body))))
    (length (slot_types tables head body (lowered_body tables head body place).behind.temps))
    (lowered_body tables head body place).code.size ((lowered_body tables head body place).code.nodes 0 (onto 0))
nodes_good structs tables fits sound head body place h =
    let c = body_good structs tables fits sound head body place h in
    let l = lowered_body tables head body place in
    let some = c.some in
    subst (λ slots. AreGood (world structs (at_body tables head (length (stmts_kinds tables body)))) slots l.code.size
    (l.code.nodes 0 (onto 0)))
    (sym (slots_count tables head body l.behind.temps))
    (c.code.nodes l.code.size 0 (onto 0) (omega arith) (some, some, some))

pub flow_good : (structs : List StructDef) (tables : Tables) → Fits structs tables → SoundTables tables
    → (head : Head) (body : Stmts) (place : Place) → IsFineDefinition tables head body place
    → IsFlow structs (flow_of tables head body place)
flow_good structs tables fits sound head body place h =
    let l = lowered_body tables head body place in
    let c = body_good structs tables fits sound head body place h in
    let small = is_small tables head body l h.sizes in
    let slots = slot_types tables head body l.behind.temps in
    let slots_are = slots_count tables head body l.behind.temps in
    let locals_few = small.locals in
    let temps_few = small.temps in
    let nodes_few = small.nodes in
    let few : length slots ≤ 32768 = omega arith in
    let gives : GivesTypes tables = known_ty structs tables fits in
    let count = named_count (listed head.params) h.unnamed in
    let texts_count = length-map (param_names (listed head.params)) name_text in
    let size = c.code.size 0 (onto 0) in
    let some = c.some in
    let same = marked_length slots (l.code.nodes 0 (onto 0)) (l.code.loops 0) 0 (l.code.nodes 0 (onto 0)) in
    let total : length (marked slots (l.code.loops 0) (l.code.nodes 0 (onto 0))) ≡ l.code.size = same ∙ size in
    record {
      name = h.names.name;
      params = params_good head h.names h.unnamed small.params (nil_right _ _ h.head);
      param_slots = omega arith;
      slots = few;
      types =
          All-from_recursion IsTy slots (all_append IsTy (param_types tables head ++ stmts_kinds tables body) (map temp_kind l.behind.temps)
          (all_append IsTy (param_types tables head) (stmts_kinds tables body)
          (params_types tables gives sound [] (listed head.params) (nil_right _ _ (nil_left _ _ h.head)))
          (stmts_types tables gives sound.aliases (kind_of_result tables head) false body _ refl h.body))
          (temp_types l.behind.temps c.kinds));
      ret = known_ty structs tables fits (kind_of_result tables head) (head_sound tables sound.aliases head h.head);
      entry = omega arith;
      countable = omega arith;
      nodes = subst (λ n. All (IsNode structs (length slots) n) (marked slots (l.code.loops 0) (l.code.nodes 0 (onto 0)))) (sym total)
          (marked_in_range (world structs (at_body tables head (length (stmts_kinds tables body)))) slots few (l.code.nodes 0 (onto 0))
          (l.code.loops 0) 0 l.code.size (l.code.nodes 0 (onto 0))
          (nodes_good structs tables fits sound head body place h));
    }
