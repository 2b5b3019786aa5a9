-- Strict execution, and the abstraction of what comes to a node and to an exit, make no logical variable.
use Rattle.std.specs.Prelude.{◌≡◌, ℕ, ◌≤◌, ℤ, pos, List, [], ◌∷◌, filter_map, length, option_map, slice_get, All}
use Rattle.std.specs.List.{cons_option}
use Rattle.std.specs.declared.option.Option.{Option}
use Rattle.std.specs.declared.option.Option.TheVariants.{None, Some}
use Rattle.std.proofs.Common.{refl, subst}
use Rattle.std.proofs.lemmas.List.Elements.{All-cons, All-head, All-nil, All-tail}
use Rattle.shape_data.specs.declared.answer.Fault.{Fault}
use Rattle.shape_data.specs.declared.program.Cmd.{Cmd}
use Rattle.shape_data.specs.declared.program.Cmd.TheVariants as cmd
use Rattle.shape_data.specs.declared.program.HeadMark.{HeadMark}
use Rattle.shape_data.specs.declared.program.Node.{Node}
use Rattle.shape_data.specs.declared.program.StructDef.{StructDef}
use Rattle.shape_data.specs.declared.symbolic.Exp.{Exp}
use Rattle.shape_data.specs.declared.symbolic.Exp.TheVariants.{Var, Const}
use Rattle.shape_data.specs.declared.symbolic.Post.{Post}
use Rattle.shape_data.specs.declared.symbolic.SymState.{SymState}
use Rattle.shape_data.specs.WellFormed.{IsAtom, widest}
use Rattle.sym_parts.specs.Laws.Each.{EachInPost, EachInState}
use Rattle.sym_canon.specs.declared.parts.Pair.{Pair}
use Rattle.sym_pure.specs.declared.parts.Normal.{Normal}
use Rattle.sym_pure.specs.declared.parts.Normal.TheVariants.{Is, Contradiction}
use Rattle.sym_pure.specs.Normal.{normal}
use Rattle.sym_pure.proofs.EachLaws.{form-each}
use Rattle.sym_forms.specs.Forms.{of_form}
use Rattle.sym_matching.proofs.KeptLaws.{All-or}
use Rattle.exec_laws.specs.declared.parts.Case.{Case}
use Rattle.exec_laws.specs.declared.parts.Case.TheVariants.{On, Leaves, Drops}
use Rattle.exec_laws.specs.declared.parts.Mode.TheVariants.{Strict}
use Rattle.exec_laws.specs.declared.parts.Step.TheVariants as step
use Rattle.exec_laws.specs.declared.parts.Table.{Table}
use Rattle.exec_laws.specs.Execution.{answer, answer_to, cases_at, cases_of, exit_of, first_drop, formed_case, line_of, next_of}
use Rattle.exec_laws.specs.Execution.{nothing_missing, post_of, setting_of}
use Rattle.exec_laws.specs.Laws.{IsTableWithin}
use Rattle.exec_laws.specs.Pairs.{canonical}
use Rattle.solve_laws.specs.Certificates.Coming.{Task, at_mark, mark_at}
use Rattle.solve_laws.specs.Limits.Laws.{
  ExecutionKeepsLogical,
  ExitsKeepLogical,
  PostHasStorableLogical,
  HasStorableLogical,
  NodesKeepLogical,
}
use Rattle.shape_data.specs.Sizes.{IsNarrow}
use Rattle.solve_laws.proofs.LimitsLemmas.Abstracted.{abstract_exit-kept, abstract_head-kept}
use Rattle.solve_laws.proofs.LimitsLemmas.Calls.{call-good}
use Rattle.solve_laws.proofs.LimitsLemmas.Counted.{IsLogicalStorable, constant-fits, existential-fits}
use Rattle.solve_laws.proofs.LimitsLemmas.Numbered.{canon-kept}
use Rattle.solve_laws.proofs.LimitsLemmas.Rows.{
  CaseGood,
  any-good,
  arith-good,
  branch-good,
  copy-good,
  free-good,
  load-good,
  new-good,
  return-good,
}
use Rattle.solve_laws.proofs.LimitsLemmas.Rows.{store-good, strict}

-- ---- the forms of cases, and the answer

module _ (P : Exp → Type 0) (constant : (n : ℤ) → P (Const n)) (new : (x : ℕ) → 65536 ≤ x → P (Var x)) (structs : List StructDef)
    (params : ℕ) (table : Table) where
  abbrev IsGood : Case → Type 0
  IsGood case = CaseGood P constant new structs params table case

  formed-cons : (case : Case) (cases : List Case) → IsGood case → All IsGood cases →
      All IsGood (cons_option (formed_case (strict P constant new structs params table) case) cases)
  formed-cons (On node pair) cases good others = by_form (normal pair.state) refl
    where
      by_form : (form : Normal) → normal pair.state ≡ form →
          All IsGood (cons_option
          (option_map (On node) (option_map (canonical Strict params) (of_form (λ one. record pair { state = one }) form))) cases)
      by_form (Is form) is =
          All-cons IsGood (On node (canonical Strict params (record pair { state = form }))) cases
          (canon-kept P new form params (form-each P pair.state form is good)) others
      by_form Contradiction is = others
  formed-cons (Leaves pair) cases good others = by_form (normal pair.state) refl
    where
      by_form : (form : Normal) → normal pair.state ≡ form →
          All IsGood (cons_option
          (option_map Leaves (option_map (canonical Strict params) (of_form (λ one. record pair { state = one }) form))) cases)
      by_form (Is form) is =
          All-cons IsGood (Leaves (canonical Strict params (record pair { state = form }))) cases
          (canon-kept P new form params (form-each P pair.state form is good)) others
      by_form Contradiction is = others
  formed-cons (Drops cause) cases good others = All-cons IsGood (Drops cause) cases tt others

  formed-all : (cases : List Case) → All IsGood cases →
      All IsGood (filter_map (formed_case (strict P constant new structs params table)) cases)
  formed-all [] each = All-nil IsGood
  formed-all (case ∷ cases) each =
      formed-cons case (filter_map (formed_case (strict P constant new structs params table)) cases) (All-head IsGood case cases each)
      (formed-all cases (All-tail IsGood case cases each))

  abbrev NextGood : ℕ × SymState → Type 0
  NextGood next = EachInState P next.1

  nexts-good : (cases : List Case) → All IsGood cases → All NextGood (filter_map next_of cases)
  nexts-good [] each = All-nil NextGood
  nexts-good (On node pair ∷ cases) each =
      All-cons NextGood (node, pair.state) (filter_map next_of cases) (All-head IsGood (On node pair) cases each)
      (nexts-good cases (All-tail IsGood (On node pair) cases each))
  nexts-good (Leaves pair ∷ cases) each = nexts-good cases (All-tail IsGood (Leaves pair) cases each)
  nexts-good (Drops cause ∷ cases) each = nexts-good cases (All-tail IsGood (Drops cause) cases each)

  exits-good : (cases : List Case) → All IsGood cases → All (EachInPost P) (filter_map exit_of cases)
  exits-good [] each = All-nil (EachInPost P)
  exits-good (On node pair ∷ cases) each = exits-good cases (All-tail IsGood (On node pair) cases each)
  exits-good (Leaves pair ∷ cases) each =
      let good : EachInState P pair.state = All-head IsGood (Leaves pair) cases each in
      All-cons (EachInPost P) (post_of pair.state) (filter_map exit_of cases)
      (record { ret = All-or P pair.state.locals 0 (Const (pos 0)) (constant (pos 0)) good.locals; heap = good.heap })
      (exits-good cases (All-tail IsGood (Leaves pair) cases each))
  exits-good (Drops cause ∷ cases) each = exits-good cases (All-tail IsGood (Drops cause) cases each)

  pub answer-good : (line : ℕ) (cases : List Case) (drop : Option Fault) → All IsGood cases →
      (nexts : List (ℕ × SymState)) (exits : List Post) → answer line cases drop ≡ step.Next nexts exits →
      All NextGood nexts × All (EachInPost P) exits
  answer-good line cases None each nexts exits is =
      let same_nexts : filter_map next_of cases ≡ nexts = cc in
      let same_exits : filter_map exit_of cases ≡ exits = cc in
      (subst (All NextGood) same_nexts (nexts-good cases each), subst (All (EachInPost P)) same_exits (exits-good cases each))
  answer-good line cases (Some cause) each nexts exits is = cc

-- ---- all commands

module _ (structs : List StructDef) (narrow : All IsNarrow structs) (params : ℕ) (table : Table) (fits : IsTableWithin structs 96 table)
    (state : SymState)
    (atoms : All (IsAtom widest structs params) state.heap.spatial) (good : EachInState (IsLogicalStorable params) state) where
  abbrev pair : Pair
  pair = nothing_missing state

  abbrev Cases : List Case → Type 0
  Cases cases = All (CaseGood (IsLogicalStorable params) (constant-fits params) (existential-fits params) structs params table) cases

  rows-good : (command : Cmd) →
      Cases (cases_of
      (strict (IsLogicalStorable params) (constant-fits params) (existential-fits params) structs params table) pair command)
  rows-good (cmd.Copy to from next) =
      copy-good (IsLogicalStorable params) (constant-fits params) (existential-fits params) structs params table pair good to from next
  rows-good (cmd.Arith to op left right next) =
      arith-good (IsLogicalStorable params) (constant-fits params)
      (existential-fits params) structs params table pair good to op left right next
  rows-good (cmd.Any to ty next) =
      any-good (IsLogicalStorable params) (constant-fits params) (existential-fits params) structs params table pair good to next
  rows-good (cmd.Load to base kind field next) =
      load-good (IsLogicalStorable params) (constant-fits params)
      (existential-fits params) structs params table pair good to base kind field next
  rows-good (cmd.Store base kind field from next) =
      store-good (IsLogicalStorable params) (constant-fits params)
      (existential-fits params) structs params table pair good base kind field from next
  rows-good (cmd.New to kind next) =
      new-good (IsLogicalStorable params) (constant-fits params) (existential-fits params) structs params table pair good to kind next
  rows-good (cmd.Free base kind next) =
      free-good (IsLogicalStorable params) (constant-fits params) (existential-fits params) structs params table pair good base kind next
  rows-good (cmd.Call to callee args next) = call-good structs narrow params table fits pair atoms good to callee args next
  rows-good (cmd.Branch op pointers left right on_true on_false) =
      branch-good (IsLogicalStorable params) (constant-fits params)
      (existential-fits params) structs params table pair good op pointers left right on_true on_false
  rows-good (cmd.Return value) =
      return-good (IsLogicalStorable params) (constant-fits params) (existential-fits params) structs params table pair good value

  pub cases-good : (node : Option Node) →
      Cases (cases_at (strict (IsLogicalStorable params) (constant-fits params) (existential-fits params) structs params table) pair node)
  cases-good None = All-nil (CaseGood (IsLogicalStorable params) (constant-fits params) (existential-fits params) structs params table)
  cases-good (Some node) =
      formed-all (IsLogicalStorable params) (constant-fits params) (existential-fits params) structs params table
      (cases_of (strict (IsLogicalStorable params) (constant-fits params) (existential-fits params) structs params table) pair node.cmd)
      (rows-good node.cmd)

pub execution_keeps_logical : ExecutionKeepsLogical
execution_keeps_logical task at state nexts exits good sizes given logical is = by_node (slice_get task.flow.nodes at) is
  where
    params : ℕ
    params = length task.flow.params

    by_node : (node : Option Node) →
        answer_to (line_of node) (cases_at (setting_of Strict task.flow task.structs task.table) (nothing_missing state) node)
        ≡ step.Next nexts exits →
        All (λ (next : ℕ × SymState). HasStorableLogical task next.1) nexts × All (PostHasStorableLogical task) exits
    by_node node e =
        answer-good (IsLogicalStorable params) (constant-fits params) (existential-fits params) task.structs params task.table
        (line_of node)
        (cases_at (setting_of Strict task.flow task.structs task.table) (nothing_missing state) node)
        (first_drop (cases_at (setting_of Strict task.flow task.structs task.table) (nothing_missing state) node))
        (cases-good task.structs sizes.structs params task.table good.table state given.heap.atoms logical node) nexts exits e

-- ---- abstraction

mark_keeps_logical : (task : Task) (mark : Option HeadMark) (state form : SymState) → HasStorableLogical task state →
    at_mark task mark state ≡ Some form → HasStorableLogical task form
mark_keeps_logical task None state form is h = let same : state ≡ form = cc in subst (HasStorableLogical task) same is
mark_keeps_logical task (Some mark) state form is h =
    abstract_head-kept (IsLogicalStorable (length task.flow.params))
    (existential-fits (length task.flow.params)) state form task.flow mark task.structs is h

pub nodes_keep_logical : NodesKeepLogical
nodes_keep_logical task at state form is h = mark_keeps_logical task (mark_at task.flow at) state form is h

pub exits_keep_logical : ExitsKeepLogical
exits_keep_logical task post form is h =
    abstract_exit-kept (IsLogicalStorable (length task.flow.params))
    (existential-fits (length task.flow.params)) post form task.flow task.structs task.recursive is h
