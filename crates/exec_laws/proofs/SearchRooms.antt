-- What the search answers is well formed: normal and canonical form keep well-formed pairs so.
use Rattle.std.specs.Prelude.{◌≡◌, ℕ, ◌+◌, ◌*◌, ◌<◌, ◌≤◌, Bool, true, false, ◌==◌, nat_lt, List, [], ◌∷◌, filter_map, length, map}
use Rattle.std.specs.Prelude.{option_map, All}
use Rattle.std.specs.List.{cons_option, position_or_len}
use Rattle.std.specs.declared.option.Option.{Option}
use Rattle.std.specs.declared.option.Option.TheVariants.{None, Some}
use Rattle.std.proofs.Common.{refl, subst, ◌∙◌, arith}
use Rattle.std.proofs.lemmas.Bool.{lt-ltb, ltb-true}
use Rattle.std.proofs.lemmas.List.{length-map}
use Rattle.std.proofs.lemmas.List.Elements.{All-cons, All-head, All-nil, All-tail, All-weaker}
use Rattle.shape_data.specs.declared.program.Cmd.{Cmd}
use Rattle.shape_data.specs.declared.program.Cmd.TheVariants as cmd
use Rattle.shape_data.specs.declared.program.StructDef.{StructDef}
use Rattle.shape_data.specs.declared.symbolic.Exp.{Exp}
use Rattle.shape_data.specs.declared.symbolic.Exp.TheVariants.{Var, Const}
use Rattle.shape_data.specs.declared.symbolic.SymHeap.{SymHeap}
use Rattle.shape_data.specs.declared.symbolic.SymState.{SymState}
use Rattle.shape_data.specs.declared.symbolic.Fact.TheVariants.{Ne}
use Rattle.shape_data.specs.WellFormed.{AreStructs, IsCmd, IsExp, IsFact, IsNode, IsState, IsSymHeap}
use Rattle.sym_parts.specs.Laws.Mapped.{on_atom, on_fact, on_heap, on_state}
use Rattle.sym_pure.proofs.EachLaws.{All-get}
use Rattle.sym_canon.specs.declared.parts.Pair.{Pair}
use Rattle.sym_canon.specs.declared.parts.Variables.TheVariants.{Existential, Further}
use Rattle.sym_canon.specs.Canonical.{arranged, canon_pair, sight_state, with_atoms_placed, with_facts_sorted, without_locals}
use Rattle.sym_canon.specs.FactOrder.{sorted_facts}
use Rattle.sym_canon.specs.Numbering.{with_number}
use Rattle.sym_canon.specs.Placing.{placed}
use Rattle.sym_pure.specs.declared.parts.Normal.{Normal}
use Rattle.sym_pure.specs.declared.parts.Normal.TheVariants.{Is, Contradiction}
use Rattle.sym_pure.specs.Equations.{read_through}
use Rattle.sym_pure.specs.Normal.{normal}
use Rattle.sym_pure.proofs.PartsLaws.{FormHasNoMore, form-fewer}
use Rattle.sym_matching.proofs.RenamingLemmas.SizeLemmas.{mapped_state_is_well_formed}
use Rattle.sym_forms.specs.Forms.{of_form, of_form_some}
use Rattle.sym_forms.specs.PairForms.{pair_of, with_missing}
use Rattle.sym_forms.specs.Sizes.{Brings, fields_in, most_exps}
use Rattle.sym_forms.proofs.WellFormedLaws.{arranged_is_well_formed, placed-length, seen-longer, sorted-each, sorted-length}
use Rattle.exec_laws.specs.declared.parts.Case.{Case}
use Rattle.exec_laws.specs.declared.parts.Case.TheVariants.{On, Leaves, Drops}
use Rattle.exec_laws.specs.declared.parts.Mode.TheVariants.{Search}
use Rattle.exec_laws.specs.declared.parts.Table.{Table}
use Rattle.exec_laws.specs.Execution.{cases_of, formed_case, formed_cases}
use Rattle.exec_laws.specs.Laws.{FitsTable, IsNoCall, IsTableWithin, SearchCasesAreWellFormed}
use Rattle.exec_laws.specs.Pairs.{Setting, atoms_of, canonical, formed, unless_left_out}
use Rattle.exec_laws.specs.Rooms.{may_miss, with_parts, IsCaseWithin, IsPairWithin}
use Rattle.exec_laws.proofs.CallRooms.{HasAtoms, HasFewAtoms, call-both, case-more}
use Rattle.exec_laws.proofs.ExecutionRooms.{rows-room}
use Rattle.exec_laws.proofs.FormedRooms.{fields-few}
use Rattle.exec_laws.proofs.RoomLemmas.{form-room}
use Rattle.exec_laws.proofs.TurnLemmas.{PairHasNoMore, formed-fewer}

-- ---- the normal form has no more atoms

abbrev MissingHasNoMore : ℕ → Option Pair → Type 0
MissingHasNoMore count None = Unit {0}
MissingHasNoMore count (Some form) = length form.missing.spatial ≤ count

missing-fewer : (params : ℕ) (pair : Pair) → MissingHasNoMore (length pair.missing.spatial) (formed Search params pair)
missing-fewer params pair = by_missing (normal (without_locals pair.missing)) (form-fewer (without_locals pair.missing))
  where
    by_state : (lacking : SymHeap) → length lacking.spatial ≤ length pair.missing.spatial → (form : Normal)
        → MissingHasNoMore (length pair.missing.spatial) (of_form (pair_of params lacking) form)
    by_state lacking fewer (Is form) = fewer
    by_state lacking fewer Contradiction = tt

    by_missing : (form : Normal) → FormHasNoMore (without_locals pair.missing) form
        → MissingHasNoMore (length pair.missing.spatial) (of_form_some (λ lacking. with_missing params pair.state lacking.heap) form)
    by_missing (Is lacking) fewer = by_state lacking.heap fewer (normal (on_state (read_through lacking.heap.pure) pair.state))
    by_missing Contradiction fewer = tt

form-atoms : (params : ℕ) (pair form : Pair) → formed Search params pair ≡ Some form → HasFewAtoms pair → HasFewAtoms form
form-atoms params pair form is few =
    let state : length (atoms_of form) ≤ length (atoms_of pair) =
    subst (λ o. PairHasNoMore (length (atoms_of pair)) o) is (formed-fewer Search params pair) in
    let missing : length form.missing.spatial ≤ length pair.missing.spatial =
    subst (λ o. MissingHasNoMore (length pair.missing.spatial) o) is (missing-fewer params pair) in
    let few_state : length pair.state.heap.spatial ≤ 12000 = few.0 in
    let few_missing : length pair.missing.spatial ≤ 12000 = few.1 in
    (omega arith, omega arith)

module _ (structs : List StructDef) (are : AreStructs structs) (params slots : ℕ) (narrow : slots ≤ 32768) (known : params ≤ 32768)
    (table : Table) where
  abbrev InRoom : ℕ → ℕ → Pair → Type 0
  InRoom k j pair = IsPairWithin structs params slots k j pair

  form-in : (k j : ℕ) (pair form : Pair) → formed Search params pair ≡ Some form → InRoom k j pair → InRoom k j form
  form-in k j pair form is room =
      let all : All (InRoom k j) (unless_left_out (λ one. one ∷ []) (formed Search params pair)) =
      form-room structs are params slots (InRoom k j) (λ one. one ∷ []) Search params k j pair room
      (λ one within. All-cons (InRoom k j) one [] within (All-nil (InRoom k j))) in
      let alone : All (InRoom k j) (form ∷ []) = subst (λ o. All (InRoom k j) (unless_left_out (λ one. one ∷ []) o)) is all in
      All-head (InRoom k j) form [] alone

  -- ---- the canonical form

  -- a state of few atoms has few expressions
  few-exps : (m count : ℕ) (state : SymState) → m ≤ 131100000 → count ≤ 32768 → length state.heap.spatial ≤ 12000
      → IsState (with_parts m) structs params count state → most_exps state ≤ 660000000
  few-exps m count state small low atoms is =
      let fields : fields_in state.heap.spatial ≤ 32769 * length state.heap.spatial =
      fields-few structs are params slots 0 narrow table m state.heap.spatial is.heap.atoms in
      let parts : length state.heap.pure + length state.heap.spatial ≤ m = is.heap.parts in
      let locals : length state.locals ≡ count = is.one_each in
      omega arith

  arranged-fits : (m count : ℕ) (state : SymState) → m ≤ 131100000 → count ≤ 32768 → length state.heap.spatial ≤ 12000
      → IsState (with_parts m) structs params count state → IsState (with_parts m) structs params count (arranged params state)
  arranged-fits m count state small low atoms is =
      let most : most_exps state ≤ 660000000 = few-exps m count state small low atoms is in
      let brings : Brings (with_parts m) (with_parts m) params (most_exps state) = record {
        logical = λ x under h. h;
        numbered = λ place below. lt-ltb (65536 + place) 2147483648 (omega (arith, most, below));
        parts = omega arith;
      } in
      arranged_is_well_formed (with_parts m) (with_parts m) structs params count state brings is

  arranged-atoms : (state : SymState) → length (arranged params state).heap.spatial ≡ length state.heap.spatial
  arranged-atoms state =
      length-map (placed params state.locals state.heap.spatial)
      (on_atom (with_number 65536 (sight_state Existential (with_atoms_placed params state) [])))
      ∙ placed-length params state.locals state.heap.spatial

  number-fits : (m : ℕ) (seen : List ℕ) → params + length seen ≤ 2147483648 → (e : Exp) → IsExp (with_parts m) params e
      → IsExp (with_parts m) params (with_number params seen e)
  number-fits m seen few (Const n) is = tt
  number-fits m seen few (Var x) is = by_place (nat_lt (position_or_len (λ y. x == y) seen) (length seen)) refl
    where
      by_place : (b : Bool) → nat_lt (position_or_len (λ y. x == y) seen) (length seen) ≡ b
          → IsExp (with_parts m) params (with_number params seen (Var x))
      by_place true e =
          let low : position_or_len (λ y. x == y) seen < length seen = ltb-true (position_or_len (λ y. x == y) seen) (length seen) e in
          rw e (lt-ltb (params + position_or_len (λ y. x == y) seen) 2147483648 (omega (arith, low, few)))
      by_place false e = rw e is

  turned : (m : ℕ) (left right : Exp) → IsFact (with_parts m) params (Ne left right) → IsFact (with_parts m) params (Ne right left)
  turned m left right h = (h.1, h.0)

  sorted-fits : (m : ℕ) (heap : SymHeap) → IsSymHeap (with_parts m) structs params heap
      → IsSymHeap (with_parts m) structs params (with_facts_sorted heap)
  sorted-fits m heap is =
      let long : length (sorted_facts heap.pure) ≡ length heap.pure = sorted-length heap.pure in
      let parts : length heap.pure + length heap.spatial ≤ m = is.parts in
      record { parts = omega arith; facts = sorted-each (IsFact (with_parts m) params) (turned m) heap.pure is.facts; atoms = is.atoms }

  canon-in : (k j : ℕ) (pair : Pair) → k ≤ 131100000 → j ≤ 131100000 → HasFewAtoms pair → InRoom k j pair
      → InRoom k j (canon_pair pair.missing pair.state params)
  canon-in k j pair few small atoms room =
      let size : ℕ = length pair.missing.pure + length pair.missing.spatial in
      let light : length pair.missing.pure + length pair.missing.spatial + length pair.state.heap.spatial ≤ j = room.light in
      let few_state : length pair.state.heap.spatial ≤ 12000 = atoms.0 in
      let few_missing : length pair.missing.spatial ≤ 12000 = atoms.1 in
      let bare : IsState (with_parts size) structs params 0 (without_locals pair.missing) =
      record {
        one_each = refl;
        locals = All-nil (IsExp (with_parts size) params);
        heap = record { parts = omega arith; facts = room.facts; atoms = room.atoms };
      } in
      let first : SymState = arranged params (without_locals pair.missing) in
      let second : SymState = arranged params pair.state in
      let one : IsState (with_parts size) structs params 0 first =
      arranged-fits size 0 (without_locals pair.missing) (omega arith) (omega arith) few_missing bare in
      let two : IsState (with_parts k) structs params slots second = arranged-fits k slots pair.state few narrow few_state room.state in
      let first_atoms : length first.heap.spatial ≡ length pair.missing.spatial = arranged-atoms (without_locals pair.missing) in
      let second_atoms : length second.heap.spatial ≡ length pair.state.heap.spatial = arranged-atoms pair.state in
      let first_parts : length first.heap.pure + length first.heap.spatial ≤ size = one.heap.parts in
      let before : List ℕ = sight_state (Further params) first [] in
      let seen : List ℕ = sight_state (Further params) second before in
      let most_one : most_exps first ≤ 660000000 = few-exps size 0 first (omega arith) (omega arith) (omega arith) one in
      let most_two : most_exps second ≤ 660000000 = few-exps k slots second few narrow (omega arith) two in
      let long_one : length before ≤ 0 + most_exps first = seen-longer (Further params) first [] in
      let long : length seen ≤ length before + most_exps second = seen-longer (Further params) second before in
      let low : params + length seen ≤ 2147483648 = omega (arith, known, most_one, most_two, long_one, long) in
      let number : Exp → Exp = with_number params seen in
      let m : IsState (with_parts size) structs params 0 (on_state number first) =
      mapped_state_is_well_formed (with_parts size) structs params params 0 number first (number-fits size seen low) one in
      let s : IsState (with_parts k) structs params slots (on_state number second) =
      mapped_state_is_well_formed (with_parts k) structs params params slots number second (number-fits k seen low) two in
      let lacking : IsSymHeap (with_parts size) structs params (with_facts_sorted (on_heap number first.heap)) =
      sorted-fits size (on_heap number first.heap) m.heap in
      let lacking_parts : length (sorted_facts (map (on_fact number) first.heap.pure)) + length (map (on_atom number) first.heap.spatial)
      ≤ size = lacking.parts in
      let numbered_atoms : length (map (on_atom number) second.heap.spatial) ≡ length second.heap.spatial =
      length-map second.heap.spatial (on_atom number) in
      record {
        state = record { one_each = s.one_each; locals = s.locals; heap = sorted-fits k (on_heap number second.heap) s.heap };
        facts = lacking.facts;
        atoms = lacking.atoms;
        light = omega arith;
      }

-- ---- the cases

module _ (structs : List StructDef) (are : AreStructs structs) (params slots nodes : ℕ) (narrow : slots ≤ 32768) (known : params ≤ 32768)
    (table : Table) where
  abbrev search : Setting
  search = record { mode = Search; params = params; structs = structs; table = table }

  abbrev Room : ℕ → ℕ → Case → Type 0
  Room k j case = IsCaseWithin structs params slots nodes k j case

  search-cons : (k j : ℕ) → k ≤ 131100000 → j ≤ 131100000 → (case : Case) (cases : List Case) → Room k j case → HasAtoms case
      → All (Room k j) cases → All (Room k j) (cons_option (formed_case search case) cases)
  search-cons k j few small (On node pair) cases room atoms others = by_form (formed Search params pair) refl
    where
      by_form : (o : Option Pair) → formed Search params pair ≡ o
          → All (Room k j) (cons_option (option_map (On node) (option_map (canonical Search params) o)) cases)
      by_form (Some form) is =
          All-cons (Room k j) (On node (canonical Search params form)) cases (
            room.0,
            canon-in structs are params slots narrow known table k j form few small (form-atoms params pair form is atoms)
                (form-in structs are params slots narrow known table k j pair form is room.1),
          ) others
      by_form None is = others
  search-cons k j few small (Leaves pair) cases room atoms others = by_form (formed Search params pair) refl
    where
      by_form : (o : Option Pair) → formed Search params pair ≡ o
          → All (Room k j) (cons_option (option_map Leaves (option_map (canonical Search params) o)) cases)
      by_form (Some form) is =
          All-cons (Room k j) (Leaves (canonical Search params form)) cases
          (canon-in structs are params 1 (omega arith) known table k j form few small (form-atoms params pair form is atoms)
          (form-in structs are params 1 (omega arith) known table k j pair form is room)) others
      by_form None is = others
  search-cons k j few small (Drops cause) cases room atoms others = All-cons (Room k j) (Drops cause) cases tt others

  search-all : (k j : ℕ) → k ≤ 131100000 → j ≤ 131100000 → (cases : List Case) → All (λ case. Room k j case × HasAtoms case) cases
      → All (Room k j) (filter_map (formed_case search) cases)
  search-all k j few small [] each = All-nil (Room k j)
  search-all k j few small (case ∷ cases) each =
      let one = All-head (λ c. Room k j c × HasAtoms c) case cases each in
      search-cons k j few small case (filter_map (formed_case search) cases) one.0 one.1
      (search-all k j few small cases (All-tail (λ c. Room k j c × HasAtoms c) case cases each))

  -- a case in little room has few atoms
  few-in : (k j : ℕ) → k ≤ 4003 → j ≤ 8003 → (case : Case) → Room k j case → HasAtoms case
  few-in k j few small (On node pair) room =
      let parts : length pair.state.heap.pure + length pair.state.heap.spatial ≤ k = room.1.state.heap.parts in
      let weight : length pair.missing.pure + length pair.missing.spatial + length pair.state.heap.spatial ≤ j = room.1.light in
      (omega arith, omega arith)
  few-in k j few small (Leaves pair) room =
      let parts : length pair.state.heap.pure + length pair.state.heap.spatial ≤ k = room.state.heap.parts in
      let weight : length pair.missing.pure + length pair.missing.spatial + length pair.state.heap.spatial ≤ j = room.light in
      (omega arith, omega arith)
  few-in k j few small (Drops cause) room = tt

  module _ (k j : ℕ) (few : k ≤ 4000) (small : j ≤ 8000) (pair : Pair) (room : IsPairWithin structs params slots k j pair) (most : ℕ)
      (some : 3 ≤ most) (few_most : most ≤ 4000) (good_table : IsTableWithin structs most table) where
    abbrev Both : Case → Type 0
    Both case = Room (k + most + may_miss Search most) (j + most + may_miss Search most) case × HasAtoms case

    row-both : (command : Cmd) → IsNoCall command → IsCmd structs slots nodes command → All Both (cases_of search pair command)
    row-both command no_call good =
        All-weaker (Room (k + 3) (j + 3)) Both
        (λ case is. (
          case-more structs are params slots nodes (k + 3) (j + 3) (k + most + may_miss Search most)
              (j + most + may_miss Search most) (omega arith) (omega arith) case is,
          few-in (k + 3) (j + 3) (omega arith) (omega arith) case is,
        ))
        (cases_of search pair command)
        (rows-room structs are params slots nodes narrow Search params known table k j few small pair room command no_call good)

    all-both : (command : Cmd) → FitsTable table command → IsCmd structs slots nodes command → All Both (cases_of search pair command)
    all-both (cmd.Call to callee args next) fits good =
        call-both structs are params slots nodes narrow Search params known table k j few small pair room most few_most good_table to callee
        args next good.3 fits
    all-both (cmd.Copy to from next) fits good = row-both (cmd.Copy to from next) tt good
    all-both (cmd.Arith to op left right next) fits good = row-both (cmd.Arith to op left right next) tt good
    all-both (cmd.Any to ty next) fits good = row-both (cmd.Any to ty next) tt good
    all-both (cmd.Load to base kind field next) fits good = row-both (cmd.Load to base kind field next) tt good
    all-both (cmd.Store base kind field from next) fits good = row-both (cmd.Store base kind field from next) tt good
    all-both (cmd.New to kind next) fits good = row-both (cmd.New to kind next) tt good
    all-both (cmd.Free base kind next) fits good = row-both (cmd.Free base kind next) tt good
    all-both (cmd.Branch op pointers left right on_true on_false) fits good =
        row-both (cmd.Branch op pointers left right on_true on_false) tt good
    all-both (cmd.Return from) fits good = row-both (cmd.Return from) tt good

    pub search-room : (command : Cmd) → FitsTable table command → IsCmd structs slots nodes command
        → All (Room (k + most + may_miss Search most) (j + most + may_miss Search most)) (formed_cases search pair command)
    search-room command fits good =
        search-all (k + most + may_miss Search most) (j + most + may_miss Search most) (omega arith) (omega arith)
        (cases_of search pair command) (all-both command fits good)

pub search_cases_are_well_formed : SearchCasesAreWellFormed
search_cases_are_well_formed flow structs at node pair table parts weight most are good is_node good_table fits few small some few_most
    room =
    let narrow = good.slots in
    let known : length flow.params ≤ 32768 = good.params.few in
    let command = (All-get (IsNode structs (length flow.slots) (length flow.nodes)) flow.nodes at node is_node good.nodes).command in
    rw is_node (search-room structs are (length flow.params) (length flow.slots)
    (length flow.nodes) narrow known table parts weight few small pair room most some few_most good_table node.cmd fits command)
