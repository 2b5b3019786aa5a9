-- Without own specs an execution that does not fail calls no own procedure; so it is the same with any, and what is inductive stays so.
use Rattle.std.specs.Prelude.{◌≡◌, ◌≢◌, ℕ, zero, suc, pos, Bool, true, false, cond, if◌then◌else◌, ◌++◌, List, [], ◌∷◌, filter_map, length}
use Rattle.std.specs.Prelude.{map, position, slice_get, slice_index_or, All, IfSome}
use Rattle.std.specs.List.{list_any}
use Rattle.std.specs.Option.{option_or}
use Rattle.std.specs.Str.{bytes_eq}
use Rattle.std.specs.declared.option.Option.{Option}
use Rattle.std.specs.declared.option.Option.TheVariants.{None, Some}
use Rattle.std.proofs.Common.{refl, sym, ap, ◌∙◌, subst}
use Rattle.std.proofs.lemmas.List.Elements.{All-head, All-tail}
use Rattle.std.proofs.lemmas.Slice.Eq.{bytes_eq-Decides}
use Rattle.shape_data.specs.declared.answer.Callee.{Callee}
use Rattle.shape_data.specs.declared.program.Cmd.{Cmd}
use Rattle.shape_data.specs.declared.program.Cmd.TheVariants as cmd
use Rattle.shape_data.specs.declared.program.Flow.{Flow}
use Rattle.shape_data.specs.declared.program.Node.{Node}
use Rattle.shape_data.specs.declared.program.StructDef.{StructDef}
use Rattle.shape_data.specs.declared.symbolic.Cert.{Cert}
use Rattle.shape_data.specs.declared.symbolic.Exp.{Exp}
use Rattle.shape_data.specs.declared.symbolic.Exp.TheVariants.{Const}
use Rattle.shape_data.specs.declared.symbolic.Fact.TheVariants.{Ne}
use Rattle.shape_data.specs.declared.symbolic.Spec.{Spec}
use Rattle.shape_data.specs.declared.symbolic.SymState.{SymState}
use Rattle.sym_canon.specs.declared.parts.Pair.{Pair}
use Rattle.sym_canon.specs.Placing.{is_cell_at, is_segment_from}
use Rattle.sym_parts.specs.Laws.Expressions.{same_exp}
use Rattle.sound_laws.specs.Certificates.{states_at}
use Rattle.exec_laws.specs.declared.parts.Case.{Case}
use Rattle.exec_laws.specs.declared.parts.Case.TheVariants.{On}
use Rattle.exec_laws.specs.declared.parts.Exposed.{Exposed}
use Rattle.exec_laws.specs.declared.parts.Exposed.TheVariants.{Shown}
use Rattle.exec_laws.specs.declared.parts.Mode.TheVariants.{Strict}
use Rattle.exec_laws.specs.declared.parts.Step.{Step}
use Rattle.exec_laws.specs.declared.parts.Table.{Table}
use Rattle.exec_laws.specs.Calling.{call_of, callee_named}
use Rattle.exec_laws.specs.Cells.{for_each_case, free_null, load_cell, store_cell, without_cell}
use Rattle.exec_laws.specs.Execution.{answer_to, cases_at, formed_case, formed_cases, line_of, nothing_missing, setting_of}
use Rattle.exec_laws.specs.Exposing.{at_segment, expose, expose_within}
use Rattle.exec_laws.specs.Pairs.{Setting, atoms_of, in_slot, unless_left_out, where_true}
use Rattle.exec_laws.specs.Values.{operand}
use Rattle.solve_laws.specs.Certificates.Coming.{Task, at_exit, at_node, normal_state}
use Rattle.solve_laws.specs.Certificates.Coverings.{IsCovered, IsPostCovered}
use Rattle.solve_laws.specs.Certificates.Inductive.{DoesNotFail, IsInductiveCert, OfExecutions, OfExits, OfNexts, execution}
use Rattle.solve_laws.specs.Tables.{own_with}

-- ---- names

-- what has another name is not found
none-found : (flow : Flow) (name : List ℕ) (callees : List Callee) → flow.name ≡ name →
    All (λ (callee : Callee). flow.name ≢ callee.name) callees → callee_named callees name ≡ None
none-found flow name [] is apart = refl
none-found flow name (callee ∷ callees) is apart =
    by_test (bytes_eq callee.name name) refl
    (none-found flow name callees is (All-tail (λ (one : Callee). flow.name ≢ one.name) callee callees apart))
  where
    by_test : (b : Bool) → bytes_eq callee.name name ≡ b → callee_named callees name ≡ None →
        cond b (Some callee) (callee_named callees name) ≡ None
    by_test true e later =
        absurd (All-head (λ (one : Callee). flow.name ≢ one.name) callee callees apart (is ∙ sym ((bytes_eq-Decides callee.name name).0 e)))
    by_test false e later = later

-- the name of an own procedure finds no other callee
pub own-apart : (outer : List Callee) (name : List ℕ) (callee : Callee) (flows : List Flow) (specs : List (List Spec)) →
    All (λ (flow : Flow). All (λ (one : Callee). flow.name ≢ one.name) outer) flows →
    callee_named (own_with flows specs) name ≡ Some callee → callee_named outer name ≡ None
own-apart outer name callee [] specs apart found = let never : ◌≡◌ {A = Option Callee} None (Some callee) = found in cc
own-apart outer name callee (flow ∷ flows) [] apart found = let never : ◌≡◌ {A = Option Callee} None (Some callee) = found in cc
own-apart outer name callee (flow ∷ flows) (one ∷ specs) apart found =
    by_test (bytes_eq flow.name name) refl found
    (λ later. own-apart outer name callee flows specs
    (All-tail (λ (it : Flow). All (λ (one : Callee). it.name ≢ one.name) outer) flow flows apart) later)
  where
    by_test : (b : Bool) → bytes_eq flow.name name ≡ b →
        cond b (Some (record { name = flow.name; params = flow.params; specs = one })) (callee_named (own_with flows specs) name)
        ≡ Some callee →
        (callee_named (own_with flows specs) name ≡ Some callee → callee_named outer name ≡ None) → callee_named outer name ≡ None
    by_test true e found later =
        none-found flow name outer ((bytes_eq-Decides flow.name name).0 e)
        (All-head (λ (it : Flow). All (λ (one : Callee). it.name ≢ one.name) outer) flow flows apart)
    by_test false e found later = later found

pub own-none : (flows : List Flow) → own_with flows [] ≡ []
own-none [] = refl
own-none (flow ∷ flows) = refl

-- ---- executions

module _ (flow : Flow) (structs : List StructDef) (own outer : List Callee)
    (apart : (name : List ℕ) (callee : Callee) → callee_named own name ≡ Some callee → callee_named outer name ≡ None) where
  abbrev with_own : List Callee → Table
  with_own callees = record { own = callees; outer = outer; cut = false }

  abbrev before : Setting
  before = setting_of Strict flow structs (with_own [])

  abbrev after : Setting
  after = setting_of Strict flow structs (with_own own)

  -- no command but a call looks at the table
  expose-same : (turns : ℕ) (kind : List ℕ) (slot : ℕ) (pair : Pair) →
      expose_within turns after kind slot pair ≡ expose_within turns before kind slot pair
  expose-same zero kind slot pair = refl
  expose-same (suc turns) kind slot pair =
      ap (λ (again : Pair → List Exposed).
      if list_any (is_cell_at (in_slot pair slot)) (atoms_of pair)
      then Shown pair ∷ []
      else at_segment again after kind (in_slot pair slot) pair (position (is_segment_from (in_slot pair slot)) (atoms_of pair)))
      (λ i later. expose-same turns kind slot later i)

  exposed : (kind : List ℕ) (slot : ℕ) (pair : Pair) → expose after kind slot pair ≡ expose before kind slot pair
  exposed kind slot pair = expose-same (length (atoms_of pair)) kind slot pair

  -- the cases of a free, by those in which the cell stands there
  abbrev freed : ℕ → Exp → ℕ → Pair → (Pair → List Exposed) → List Case
  freed base e next pair cells =
      if same_exp e (Const (pos 0))
      then On next pair ∷ []
      else free_null before e next pair
      ++ unless_left_out (λ shown. for_each_case (without_cell next) base (cells shown)) (where_true before (Ne e (Const (pos 0))) pair)

  -- a call: what has no own spec fails
  module _ (line : ℕ) (to : Option ℕ) (name : List ℕ) (args : List Exp) (next : ℕ) (pair : Pair) where
    abbrev called : Setting → Option Callee → List Case
    called setting callee = filter_map (formed_case before) (call_of setting false to next args pair callee)

    call-same : (o : Option Callee) → callee_named own name ≡ o → DoesNotFail (answer_to line (called before (callee_named outer name))) →
        called after (option_or o (callee_named outer name)) ≡ called before (callee_named outer name)
    call-same None is runs = refl
    call-same (Some callee) is runs =
        absurd (subst (λ found. DoesNotFail (answer_to line (called before found))) (apart name callee is) runs)

  cases-same : (line : ℕ) (pair : Pair) (command : Cmd) → DoesNotFail (answer_to line (formed_cases before pair command)) →
      formed_cases after pair command ≡ formed_cases before pair command
  cases-same line pair (cmd.Copy to from next) runs = refl
  cases-same line pair (cmd.Arith to op left right next) runs = refl
  cases-same line pair (cmd.Any to ty next) runs = refl
  cases-same line pair (cmd.Load to base kind field next) runs =
      ap (λ (cells : List Exposed). filter_map (formed_case before) (for_each_case (load_cell to base kind field next) base cells))
      (exposed kind base pair)
  cases-same line pair (cmd.Store base kind field from next) runs =
      ap (λ (cells : List Exposed). filter_map (formed_case before) (for_each_case (store_cell base kind field from next) base cells))
      (exposed kind base pair)
  cases-same line pair (cmd.New to kind next) runs = refl
  cases-same line pair (cmd.Free base kind next) runs =
      ap (λ (cells : Pair → List Exposed). filter_map (formed_case before) (freed base (in_slot pair base) next pair cells))
      (λ i shown. exposed kind base shown i)
  cases-same line pair (cmd.Call to name args next) runs =
      call-same line to name (map (operand pair) args) next pair (callee_named own name) refl runs
  cases-same line pair (cmd.Branch op pointers left right on_true on_false) runs = refl
  cases-same line pair (cmd.Return value) runs = refl

  module _ (recursive : Bool) where
    abbrev task_with : List Callee → Task
    task_with callees = record { flow = flow; structs = structs; table = with_own callees; recursive = recursive }

    execution-same : (at : ℕ) (form : SymState) → DoesNotFail (execution (task_with []) at form) →
        execution (task_with own) at form ≡ execution (task_with []) at form
    execution-same at form runs = by_node (slice_get flow.nodes at) runs
      where
        by_node : (o : Option Node) → DoesNotFail (answer_to (line_of o) (cases_at before (nothing_missing form) o)) →
            answer_to (line_of o) (cases_at after (nothing_missing form) o)
            ≡ answer_to (line_of o) (cases_at before (nothing_missing form) o)
        by_node None runs = refl
        by_node (Some node) runs = ap (answer_to node.line) (cases-same node.line (nothing_missing form) node.cmd runs)

    module _ (spec : Spec) (cert : Cert) (rules : IsInductiveCert (task_with []) spec cert) where
      moved : (P : Step → Type 0) → OfExecutions (task_with []) cert P → OfExecutions (task_with own) cert P
      moved P holds at k d below =
          if_form (normal_state (slice_index_or (states_at cert at) k d)) (rules.runs at k d below) (holds at k d below)
        where
          if_form : (o : Option SymState) → IfSome o (λ form. DoesNotFail (execution (task_with []) at form)) →
              IfSome o (λ form. P (execution (task_with []) at form)) →
              IfSome o (λ form. P (execution (task_with own) at form))
          if_form None runs is = tt
          if_form (Some form) runs is = subst P (sym (execution-same at form runs)) is

      pub moves : IsInductiveCert (task_with own) spec cert
      moves = record {
        start = rules.start;
        runs = moved DoesNotFail rules.runs;
        nexts =
            moved (OfNexts
            (λ (next : ℕ × SymState). IfSome (at_node (task_with []) next.0 next.1) (IsCovered (states_at cert next.0)))) rules.nexts;
        exits = moved (OfExits (λ exit. IfSome (at_exit (task_with []) exit) (IsPostCovered cert.exits))) rules.exits;
        posts = rules.posts;
      }
