-- What an execution gives of a well-formed pair: pairs that may come to their nodes, and missing heaps that may become candidates. So
-- may the start pair come to node 0.
use Rattle.std.specs.Prelude.{◌≡◌, ℕ, ◌+◌, ◌<◌, ◌≤◌, false, ltb, List, [], ◌∷◌, filter_map, length, option_map, slice_get, All, IfSome}
use Rattle.std.specs.List.{cons_option}
use Rattle.std.specs.declared.option.Option.{Option}
use Rattle.std.specs.declared.option.Option.TheVariants.{None, Some}
use Rattle.std.proofs.Common.{refl, sym, subst, arith, lit≤}
use Rattle.std.proofs.lemmas.Bool.{ltb-false, or_parts}
use Rattle.std.proofs.lemmas.List.Elements.{All-cons, All-head, All-nil, All-tail, All-weaker}
use Rattle.shape_data.specs.declared.answer.Callee.{Callee}
use Rattle.shape_data.specs.declared.program.Cmd.{Cmd}
use Rattle.shape_data.specs.declared.program.Cmd.TheVariants as cmd
use Rattle.shape_data.specs.declared.program.HeadMark.{HeadMark}
use Rattle.shape_data.specs.declared.program.Node.{Node}
use Rattle.shape_data.specs.declared.symbolic.SymState.{SymState}
use Rattle.shape_data.specs.WellFormed.{FitsCall, IsAtom, IsCmd, IsFact, IsNode, IsState, IsSymHeap, widest}
use Rattle.sym_parts.specs.Shapes.Symbolic.{emp}
use Rattle.sym_parts.proofs.ShapesLemmas.StepsStacks.{All-at}
use Rattle.sym_canon.specs.declared.parts.Pair.{Pair}
use Rattle.abstraction_laws.specs.Pairs.{abstract_pair, canon_of, pair_in_forms}
use Rattle.abstraction_laws.specs.Results.{IsPair, with_at_most}
use Rattle.abstraction_laws.proofs.AtomsLaws.{HasNoMoreAtoms, canon-short, in_forms-short}
use Rattle.abstraction_laws.proofs.PairFormed.{abstract_pair_is_within, canon_is_well_formed}
use Rattle.abstraction_laws.proofs.PairResults.{IsNoLarger, in_forms-small}
use Rattle.abstraction_laws.proofs.RoomLaws.{cells_have_few_fields, large_pair_has_room}
use Rattle.exec_laws.specs.declared.parts.Case.{Case}
use Rattle.exec_laws.specs.declared.parts.Case.TheVariants.{On, Leaves, Drops}
use Rattle.exec_laws.specs.declared.parts.Mode.TheVariants.{Search}
use Rattle.exec_laws.specs.Execution.{both_forms, cases_at, cases_of, formed_case, formed_cases, search_cases, setting_of}
use Rattle.exec_laws.specs.Laws.{FitsTable, IsNoCall, callees_of}
use Rattle.exec_laws.specs.Pairs.{Setting}
use Rattle.exec_laws.specs.Rooms.{IsCaseWithin, IsPairWithin, may_miss}
use Rattle.exec_laws.proofs.CallRooms.{HasAtoms, HasFewAtoms, call-both}
use Rattle.exec_laws.proofs.ExecutionRooms.{rows-room}
use Rattle.exec_laws.proofs.SearchRooms.{search_cases_are_well_formed}
use Rattle.solve_laws.specs.Certificates.Coming.{Task, mark_at, normal_state, start_form}
use Rattle.solve_laws.specs.Certificates.Conditions.{IsTask}
use Rattle.solve_laws.specs.Certificates.Limits.{analysable}
use Rattle.solve_laws.proofs.CertificatesLemmas.ResultLaws.{normal_state_is_well_formed, start_form_is_well_formed}
use Rattle.solve_laws.specs.Candidates.Candidates.{cases_of_form, cases_of_pair}
use Rattle.solve_laws.specs.Candidates.Coming.{has_many_parts, pair_at_mark, parts_of, start_pair}
use Rattle.solve_laws.specs.Candidates.Conditions.{IsGivenCase, IsTaskHeap, IsTaskPair, MayCome}
use Rattle.solve_laws.proofs.CandidatesLemmas.LeavingLaws.{GoesOn, no_return_goes_on}

-- what holds of each of a list, and what else does
both-each : {A : Type 0} (P Q : A → Type 0) (xs : List A) → All P xs → All Q xs → All (λ x. P x × Q x) xs
both-each P Q [] p q = All-nil (λ x. P x × Q x)
both-each P Q (x ∷ xs) p q =
    All-cons (λ y. P y × Q y) x xs (All-head P x xs p, All-head Q x xs q) (both-each P Q xs (All-tail P x xs p) (All-tail Q x xs q))

module _ (task : Task) (good : IsTask task) where
  abbrev params : ℕ
  params = length task.flow.params

  abbrev slots : ℕ
  slots = length task.flow.slots

  abbrev nodes : ℕ
  nodes = length task.flow.nodes

  known : params ≤ 32768
  known = good.flow.params.few

  -- ---- a pair comes to a node

  -- a well-formed pair without many parts
  narrowed : (most : ℕ) (pair : Pair) → IsPair (with_at_most most) task.structs params slots pair → has_many_parts pair ≡ false →
      IsTaskPair task pair
  narrowed most pair is few =
      let parts = or_parts (ltb 96 (parts_of pair.missing)) (ltb 96 (parts_of pair.state.heap)) few in
      record {
        missing = record { parts = ltb-false 96 (parts_of pair.missing) parts.0; facts = is.missing.facts; atoms = is.missing.atoms };
        state = record {
          one_each = is.state.one_each;
          locals = is.state.locals;
          heap =
              record { parts = ltb-false 96 (parts_of pair.state.heap) parts.1; facts = is.state.heap.facts; atoms = is.state.heap.atoms };
        };
      }

  -- a well-formed pair of few atoms may come
  comes : (most : ℕ) → most ≤ 131100000 → (node : ℕ) (pair : Pair) → node < nodes →
      IsPair (with_at_most most) task.structs params slots pair →
      length pair.missing.spatial ≤ 12000 → length pair.state.heap.spatial ≤ 12000 → MayCome task node pair
  comes most small node pair within is missing state =
      let room = large_pair_has_room most task.structs params slots pair good.structs good.flow.slots is state in
      record { within = within; room = record { missing = room.1; state = room.0 }; gives = by_mark (mark_at task.flow node) }
    where
      by_made : (mark : HeadMark) (made : Option Pair) → abstract_pair pair task.flow mark task.structs ≡ made →
          IfSome made (λ form. has_many_parts form ≡ false → IsTaskPair task form)
      by_made mark None same = tt
      by_made mark (Some form) same =
          narrowed most form
          (abstract_pair_is_within most task.structs task.structs slots pair form task.flow mark small good.structs good.flow.slots known is
          missing state same)

      by_mark : (mark : Option HeadMark) → IfSome (pair_at_mark task mark pair) (λ form. has_many_parts form ≡ false → IsTaskPair task form)
      by_mark None = narrowed most pair is
      by_mark (Some mark) = by_made mark (abstract_pair pair task.flow mark task.structs) refl

  -- ---- the start pair

  -- nothing is missing, and nothing is there
  empty-fine : IsSymHeap widest task.structs params emp
  empty-fine = record { parts = omega arith; facts = All-nil (IsFact widest params); atoms = All-nil (IsAtom widest task.structs params) }

  pub start-comes : (start : SymState) → start_form task.flow emp ≡ Some start → MayCome task 0 (start_pair task start)
  start-comes start is =
      let beside : Pair = record { missing = emp; state = start } in
      let state : IsState widest task.structs params slots start =
      start_form_is_well_formed task emp start good.structs good.flow empty-fine is in
      let parts : length start.heap.pure + length start.heap.spatial ≤ 4000 = state.heap.parts in
      let few : length start.heap.spatial ≤ 12000 = omega (arith, parts) in
      let fine : IsPair (with_at_most 4000) task.structs params slots (canon_of params beside) =
      canon_is_well_formed 4000 task.structs params slots beside (lit≤ tt) good.structs good.flow.slots known
      (record { missing = empty-fine; state = state }) (lit≤ tt) few in
      let short : HasNoMoreAtoms beside (canon_of params beside) = canon-short params beside in
      comes 4000 (lit≤ tt) 0 (start_pair task start) good.flow.entry fine (omega (arith, short.missing)) (omega (arith, short.state, few))

  -- ---- the cases of a pair

  module _ (pair : Pair) (is : IsTaskPair task pair) where
    abbrev setting : Setting
    setting = setting_of Search task.flow task.structs task.table

    room : IsPairWithin task.structs params slots 96 192 pair
    room =
        let missing : length pair.missing.pure + length pair.missing.spatial ≤ 96 = is.missing.parts in
        let state : length pair.state.heap.pure + length pair.state.heap.spatial ≤ 96 = is.state.heap.parts in
        record { state = is.state; facts = is.missing.facts; atoms = is.missing.atoms; light = omega (arith, missing, state) }

    -- a case within the room of an execution
    abbrev IsRoomy : Case → Type 0
    IsRoomy case = IsCaseWithin task.structs params slots nodes (96 + 96 + may_miss Search 96) (192 + 96 + may_miss Search 96) case

    -- a case of the command has few atoms, and leaves with the missing heap of the pair
    abbrev IsShort : Case → Type 0
    IsShort (On node one) = HasFewAtoms one
    IsShort (Leaves one) = one.missing ≡ pair.missing
    IsShort (Drops cause) = Unit {0}

    going-short : (case : Case) → HasAtoms case × GoesOn case → IsShort case
    going-short (On node one) both = both.0
    going-short (Leaves one) both = absurd both.1
    going-short (Drops cause) both = tt

    few-of : (case : Case) → IsCaseWithin task.structs params slots nodes 99 195 case → HasAtoms case
    few-of (On node one) within =
        let parts : length one.state.heap.pure + length one.state.heap.spatial ≤ 99 = within.1.state.heap.parts in
        let weight : length one.missing.pure + length one.missing.spatial + length one.state.heap.spatial ≤ 195 = within.1.light in
        (omega (arith, parts), omega (arith, weight))
    few-of (Leaves one) within =
        let parts : length one.state.heap.pure + length one.state.heap.spatial ≤ 99 = within.state.heap.parts in
        let weight : length one.missing.pure + length one.missing.spatial + length one.state.heap.spatial ≤ 195 = within.light in
        (omega (arith, parts), omega (arith, weight))
    few-of (Drops cause) within = tt

    -- those of a command other than a call
    row-atoms : (command : Cmd) → IsNoCall command → IsCmd task.structs slots nodes command → All HasAtoms (cases_of setting pair command)
    row-atoms command no_call is_command =
        All-weaker (IsCaseWithin task.structs params slots nodes 99 195) HasAtoms few-of (cases_of setting pair command)
        (rows-room task.structs good.structs params slots nodes good.flow.slots Search params known task.table 96 192 (omega arith)
        (omega arith) pair room command no_call is_command)

    going : (command : Cmd) → All HasAtoms (cases_of setting pair command) → All GoesOn (cases_of setting pair command) →
        All IsShort (cases_of setting pair command)
    going command atoms goes =
        All-weaker (λ case. HasAtoms case × GoesOn case) IsShort going-short (cases_of setting pair command)
        (both-each HasAtoms GoesOn (cases_of setting pair command) atoms goes)

    short : (command : Cmd) → FitsTable task.table command → IsCmd task.structs slots nodes command →
        All IsShort (cases_of setting pair command)
    short (cmd.Call to callee args next) fits is_command =
        going (cmd.Call to callee args next)
        (All-weaker (λ case. IsRoomy case × HasAtoms case) HasAtoms (λ case two. two.1)
        (cases_of setting pair (cmd.Call to callee args next))
        (call-both task.structs good.structs params slots nodes good.flow.slots Search params known task.table 96 192 (omega arith)
        (omega arith) pair room 96
        (omega arith) good.table to callee args next is_command.3 fits))
        (no_return_goes_on setting pair (cmd.Call to callee args next) tt)
    short (cmd.Return value) fits is_command = All-cons IsShort _ [] refl (All-nil IsShort)
    short (cmd.Copy to from next) fits is_command =
        going (cmd.Copy to from next) (row-atoms (cmd.Copy to from next) tt is_command)
        (no_return_goes_on setting pair (cmd.Copy to from next) tt)
    short (cmd.Arith to op left right next) fits is_command =
        going (cmd.Arith to op left right next) (row-atoms (cmd.Arith to op left right next) tt is_command)
        (no_return_goes_on setting pair (cmd.Arith to op left right next) tt)
    short (cmd.Any to ty next) fits is_command =
        going (cmd.Any to ty next) (row-atoms (cmd.Any to ty next) tt is_command) (no_return_goes_on setting pair (cmd.Any to ty next) tt)
    short (cmd.Load to base kind field next) fits is_command =
        going (cmd.Load to base kind field next) (row-atoms (cmd.Load to base kind field next) tt is_command)
        (no_return_goes_on setting pair (cmd.Load to base kind field next) tt)
    short (cmd.Store base kind field from next) fits is_command =
        going (cmd.Store base kind field from next) (row-atoms (cmd.Store base kind field from next) tt is_command)
        (no_return_goes_on setting pair (cmd.Store base kind field from next) tt)
    short (cmd.New to kind next) fits is_command =
        going (cmd.New to kind next) (row-atoms (cmd.New to kind next) tt is_command)
        (no_return_goes_on setting pair (cmd.New to kind next) tt)
    short (cmd.Free base kind next) fits is_command =
        going (cmd.Free base kind next) (row-atoms (cmd.Free base kind next) tt is_command)
        (no_return_goes_on setting pair (cmd.Free base kind next) tt)
    short (cmd.Branch op pointers left right on_true on_false) fits is_command =
        going (cmd.Branch op pointers left right on_true on_false)
        (row-atoms (cmd.Branch op pointers left right on_true on_false) tt is_command)
        (no_return_goes_on setting pair (cmd.Branch op pointers left right on_true on_false) tt)

    -- ---- their forms

    -- a formed case has few atoms, and leaves with a missing heap of no more parts
    abbrev IsShortForm : Case → Type 0
    IsShortForm (On node one) = HasFewAtoms one
    IsShortForm (Leaves one) = parts_of one.missing ≤ 96
    IsShortForm (Drops cause) = Unit {0}

    form-short : (case : Case) (cases : List Case) → IsShort case → All IsShortForm cases →
        All IsShortForm (cons_option (formed_case setting case) cases)
    form-short (On node one) cases few others = by_form (both_forms setting one) refl
      where
        by_form : (o : Option Pair) → pair_in_forms params one ≡ o → All IsShortForm (cons_option (option_map (On node) o) cases)
        by_form None same = others
        by_form (Some form) same =
            let less : HasNoMoreAtoms one form = in_forms-short params one form same in
            All-cons IsShortForm (On node form) cases (omega (arith, less.state, few.0), omega (arith, less.missing, few.1)) others
    form-short (Leaves one) cases alike others = by_form (both_forms setting one) refl
      where
        by_form : (o : Option Pair) → pair_in_forms params one ≡ o → All IsShortForm (cons_option (option_map Leaves o) cases)
        by_form None same = others
        by_form (Some form) same =
            let less : IsNoLarger one form = in_forms-small params one form same in
            let missing : parts_of form.missing ≤ parts_of one.missing = less.missing in
            let before : parts_of one.missing ≤ 96 = subst (λ heap. parts_of heap ≤ 96) (sym alike) is.missing.parts in
            All-cons IsShortForm (Leaves form) cases (omega (arith, missing, before)) others
    form-short (Drops cause) cases few others = All-cons IsShortForm (Drops cause) cases tt others

    forms-short : (cases : List Case) → All IsShort cases → All IsShortForm (filter_map (formed_case setting) cases)
    forms-short [] each = All-nil IsShortForm
    forms-short (case ∷ cases) each =
        form-short case (filter_map (formed_case setting) cases) (All-head IsShort case cases each)
        (forms-short cases (All-tail IsShort case cases each))

    -- such a case, within the room of an execution, is what may be given
    given-of : (case : Case) → IsRoomy case × IsShortForm case → IsGivenCase task case
    given-of (On node one) both =
        let parts : length one.state.heap.pure + length one.state.heap.spatial ≤ 96 + 96 + may_miss Search 96 = both.0.1.state.heap.parts in
        let weight : length one.missing.pure + length one.missing.spatial + length one.state.heap.spatial ≤ 192 + 96 + may_miss Search 96 =
        both.0.1.light in
        let fine : IsPair (with_at_most 131100000) task.structs params slots one = record {
          missing = record { parts = omega (arith, weight); facts = both.0.1.facts; atoms = both.0.1.atoms };
          state = record {
            one_each = both.0.1.state.one_each;
            locals = both.0.1.state.locals;
            heap = record { parts = omega (arith, parts); facts = both.0.1.state.heap.facts; atoms = both.0.1.state.heap.atoms };
          };
        } in
        comes 131100000 (lit≤ tt) node one both.0.0 fine both.1.1 both.1.0
    given-of (Leaves one) both =
        let few : parts_of one.missing ≤ 96 = both.1 in
        let fine : IsTaskHeap task one.missing = record { parts = few; facts = both.0.facts; atoms = both.0.atoms } in
        let wide : IsSymHeap widest task.structs params one.missing =
        record { parts = omega (arith, few); facts = both.0.facts; atoms = both.0.atoms } in
        record { room = cells_have_few_fields task.structs params one.missing good.structs wide; fine = fine }
    given-of (Drops cause) both = tt

    -- the cases of a node
    node-given : (at : ℕ) (o : Option Node) → slice_get task.flow.nodes at ≡ o → All (IsGivenCase task) (cases_at setting pair o)
    node-given at None same = All-nil (IsGivenCase task)
    node-given at (Some node) same =
        let command = (All-at (IsNode task.structs slots nodes) task.flow.nodes at node good.flow.nodes same).command in
        let fits =
        All-at (λ (one : Node). FitsCall (λ (it : Callee). it.name) (λ (it : Callee). it.params)
        (callees_of task.table) one.cmd) task.flow.nodes at node good.fits same in
        let within : All IsRoomy (search_cases task.flow task.structs at pair task.table) =
        search_cases_are_well_formed task.flow task.structs at node pair task.table 96 192 96 good.structs good.flow same good.table fits
        (omega arith) (omega arith) (omega arith)
        (omega arith) room in
        let here : All IsRoomy (formed_cases setting pair node.cmd) = rw same at within in
        All-weaker (λ case. IsRoomy case × IsShortForm case) (IsGivenCase task) given-of (formed_cases setting pair node.cmd)
        (both-each IsRoomy IsShortForm (formed_cases setting pair node.cmd) here
        (forms-short (cases_of setting pair node.cmd) (short node.cmd fits command)))

  -- with a state in normal form
  pub executed-given : (pair : Pair) (form : SymState) → IsTaskPair task pair → normal_state pair.state ≡ Some form →
      IsTaskPair task (record { missing = pair.missing; state = form })
  executed-given pair form is same =
      record { missing = is.missing; state = normal_state_is_well_formed analysable task params slots pair.state form is.state same }

  -- WHAT A TURN GIVES
  pub cases-given : (node : ℕ) (pair : Pair) → IsTaskPair task pair → All (IsGivenCase task) (cases_of_pair task node pair)
  cases-given node pair is = by_form (normal_state pair.state) refl
    where
      by_form : (o : Option SymState) → normal_state pair.state ≡ o → All (IsGivenCase task) (cases_of_form task node pair.missing o)
      by_form None same = All-nil (IsGivenCase task)
      by_form (Some form) same =
          node-given (record { missing = pair.missing; state = form }) (executed-given pair form is same) node
          (slice_get task.flow.nodes node) refl
