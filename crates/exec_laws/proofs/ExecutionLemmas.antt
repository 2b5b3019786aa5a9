-- The law of strict execution: each row's cases cover its command, so do their forms, and the answer has them all.
use Rattle.std.specs.Prelude.{◌≡◌, ℕ, ℤ, List, [], ◌∷◌, filter_map, length, option_map, slice_index_or, pos}
use Rattle.std.specs.declared.option.Option.{Option}
use Rattle.std.specs.declared.option.Option.TheVariants.{None, Some}
use Rattle.std.proofs.Common.{refl, ap, ◌∙◌, subst, inl, inr}
use Rattle.std.proofs.Math.ListN.{get_or-map}
use Rattle.shape_data.specs.declared.answer.Callee.{Callee}
use Rattle.shape_data.specs.declared.answer.Fault.{Fault}
use Rattle.shape_data.specs.declared.machine.Cell.{Cell}
use Rattle.shape_data.specs.declared.program.Cmd.{Cmd}
use Rattle.shape_data.specs.declared.program.Cmd.TheVariants as cmd
use Rattle.shape_data.specs.declared.program.Program.{Program}
use Rattle.shape_data.specs.declared.program.StructDef.{StructDef}
use Rattle.shape_data.specs.declared.symbolic.Exp.TheVariants.{Const}
use Rattle.shape_data.specs.declared.symbolic.Post.{Post}
use Rattle.shape_data.specs.declared.symbolic.SymState.{SymState}
use Rattle.shape_data.specs.Meaning.{value, MeetsOne, MeetsPost, MeetsState}
use Rattle.shape_data.specs.Structures.{ContainsStructures}
use Rattle.sym_canon.specs.declared.parts.Pair.{Pair}
use Rattle.sound_laws.specs.Commands.{Does}
use Rattle.sound_laws.specs.Leading.{MeetsNext}
use Rattle.sound_laws.proofs.BesideLemmas.{does_beside_frame, does_on_any_stack}
use Rattle.sound_laws.proofs.LeadingLemmas.{Does-weaker}
use Rattle.exec_laws.specs.declared.parts.Case.{Case}
use Rattle.exec_laws.specs.declared.parts.Case.TheVariants.{On, Leaves, Drops}
use Rattle.exec_laws.specs.declared.parts.Mode.TheVariants.{Strict}
use Rattle.exec_laws.specs.declared.parts.Step.TheVariants as step
use Rattle.exec_laws.specs.declared.parts.Table.{Table}
use Rattle.exec_laws.specs.Execution.{answer, answer_to, cases_at, cases_of, exit_of, first_drop, formed_case, formed_cases, line_of}
use Rattle.exec_laws.specs.Execution.{next_of, nothing_missing, post_of, setting_of}
use Rattle.exec_laws.specs.Laws.{ExecutionIsSound, ExecutionIsSoundBesideFrames, ExecutionIsSoundOnAnyStack, FitsTable, IsNoCutCall}
use Rattle.exec_laws.specs.Laws.{IsTable, callees_of}
use Rattle.exec_laws.specs.Meanings.{Cover, GoesOn, HasLeft, IsDropped, SomeOf}
use Rattle.exec_laws.specs.Pairs.{Setting}
use Rattle.exec_laws.proofs.BranchRows.{branch-row}
use Rattle.exec_laws.proofs.CallRows.{call-row}
use Rattle.exec_laws.proofs.CellRows.{free-row, load-row, new-row, store-row}
use Rattle.exec_laws.proofs.Forms.{IsMet, forms-met}
use Rattle.exec_laws.proofs.SomeOf.{some-kept}
use Rattle.exec_laws.proofs.ValueRows.{any-row, arith-row, copy-row, return-row}

module _ (program : Program) (params : ℕ) (structs : List StructDef) (table : Table) (contains : ContainsStructures program.structs structs)
    (s : ℕ → ℤ) (locals : List ℤ) (heap : List Cell) where
  abbrev strict : Setting
  strict = record { mode = Strict; params = params; structs = structs; table = table }

  abbrev callees : List Callee
  callees = callees_of table

  -- each row
  rows : (command : Cmd) → IsTable structs table → FitsTable table command → IsNoCutCall table command → (pair : Pair) →
      IsMet program.structs s locals heap pair →
      Cover program callees s locals heap command (cases_of strict pair command)
  rows (cmd.Copy to from next) good fits uncut pair meets = copy-row program callees s locals heap pair meets to from next
  rows (cmd.Arith to op left right next) good fits uncut pair meets =
      arith-row program callees s locals heap pair meets to op left right next
  rows (cmd.Any to ty next) good fits uncut pair meets = any-row program callees s locals heap pair meets to ty next
  rows (cmd.Load to base kind field next) good fits uncut pair meets =
      load-row program callees s locals heap params structs table contains pair meets to base kind field next
  rows (cmd.Store base kind field from next) good fits uncut pair meets =
      store-row program callees s locals heap params structs table contains pair meets base kind field from next
  rows (cmd.New to kind next) good fits uncut pair meets =
      new-row program callees s locals heap params structs table contains pair meets to kind next
  rows (cmd.Free base kind next) good fits uncut pair meets =
      free-row program callees s locals heap params structs table contains pair meets base kind next
  rows (cmd.Call to callee args next) good fits uncut pair meets =
      call-row program s locals heap pair meets params structs table contains good to callee args next fits uncut
  rows (cmd.Branch op pointers left right on_true on_false) good fits uncut pair meets =
      branch-row program callees s locals heap pair meets params structs table op pointers left right on_true on_false
  rows (cmd.Return from) good fits uncut pair meets = return-row program callees s locals heap pair meets from

  -- the forms of cases
  dropped-kept : (case : Case) → IsDropped case → (last : Case) × (formed_case strict case ≡ Some last) × IsDropped last
  dropped-kept (On node pair) is = absurd is
  dropped-kept (Leaves pair) is = absurd is
  dropped-kept (Drops cause) is = (Drops cause, refl, tt)

  on-kept : (next : ℕ) (values : List ℤ) (cells : List Cell) (case : Case) → GoesOn program.structs s next values cells case →
      (last : Case) × (formed_case strict case ≡ Some last) × GoesOn program.structs s next values cells last
  on-kept next values cells (On node pair) is =
      let form = forms-met program.structs s values cells params pair is.1 in
      (On node form.0, ap (λ o. option_map (On node) o) form.1, (is.0, form.2))
  on-kept next values cells (Leaves pair) is = absurd is
  on-kept next values cells (Drops cause) is = absurd is

  left-kept : (result : ℤ) (cells : List Cell) (case : Case) → HasLeft program.structs s result cells case →
      (last : Case) × (formed_case strict case ≡ Some last) × HasLeft program.structs s result cells last
  left-kept result cells (On node pair) is = absurd is
  left-kept result cells (Leaves pair) is =
      let form = forms-met program.structs s (result ∷ []) cells params pair is in
      (Leaves form.0, ap (λ o. option_map Leaves o) form.1, form.2)
  left-kept result cells (Drops cause) is = absurd is

  formed-cover : (command : Cmd) (cases : List Case) → Cover program callees s locals heap command cases →
      Cover program callees s locals heap command (filter_map (formed_case strict) cases)
  formed-cover command cases (inl dropped) = inl (some-kept IsDropped IsDropped (formed_case strict) dropped-kept cases dropped)
  formed-cover command cases (inr does) =
      inr (Does-weaker (λ next values cells. SomeOf (GoesOn program.structs s next values cells) cases)
      (λ next values cells. SomeOf (GoesOn program.structs s next values cells) (filter_map (formed_case strict) cases))
      (λ result cells. SomeOf (HasLeft program.structs s result cells) cases)
      (λ result cells. SomeOf (HasLeft program.structs s result cells) (filter_map (formed_case strict) cases))
      (λ next values cells here. some-kept (GoesOn program.structs s next values cells) (GoesOn program.structs s next values cells)
      (formed_case strict) (on-kept next values cells) cases here)
      (λ result cells here. some-kept (HasLeft program.structs s result cells) (HasLeft program.structs s result cells) (formed_case strict)
      (left-kept result cells) cases here)
      program callees locals heap command does)

  -- ---- the answer

  no-drop : (cases : List Case) → first_drop cases ≡ None → SomeOf IsDropped cases → ⊥
  no-drop [] none is = is
  no-drop (On node pair ∷ cases) none (inl is) = is
  no-drop (On node pair ∷ cases) none (inr is) = no-drop cases none is
  no-drop (Leaves pair ∷ cases) none (inl is) = is
  no-drop (Leaves pair ∷ cases) none (inr is) = no-drop cases none is
  no-drop (Drops cause ∷ cases) none is = cc

  next-met : (next : ℕ) (values : List ℤ) (cells : List Cell) (cases : List Case) →
      SomeOf (GoesOn program.structs s next values cells) cases → MeetsNext program.structs s next values cells (filter_map next_of cases)
  next-met next values cells [] is = is
  next-met next values cells (On node pair ∷ cases) (inl is) = inl is
  next-met next values cells (On node pair ∷ cases) (inr is) = inr (next-met next values cells cases is)
  next-met next values cells (Leaves pair ∷ cases) (inl is) = absurd is
  next-met next values cells (Leaves pair ∷ cases) (inr is) = next-met next values cells cases is
  next-met next values cells (Drops cause ∷ cases) (inl is) = absurd is
  next-met next values cells (Drops cause ∷ cases) (inr is) = next-met next values cells cases is

  post-met : (result : ℤ) (cells : List Cell) (state : SymState) → MeetsState program.structs s (result ∷ []) cells state →
      MeetsPost program.structs s result cells (post_of state)
  post-met result cells state meets = (
    meets.0,
    meets.1,
    ap (λ (values : List ℤ). slice_index_or values 0 (pos 0)) meets.2
        ∙ get_or-map (value meets.0) state.locals 0 (Const (pos 0)),
    meets.3,
  )

  exit-met : (result : ℤ) (cells : List Cell) (cases : List Case) → SomeOf (HasLeft program.structs s result cells) cases →
      MeetsOne program.structs s result cells (filter_map exit_of cases)
  exit-met result cells [] is = is
  exit-met result cells (On node pair ∷ cases) (inl is) = absurd is
  exit-met result cells (On node pair ∷ cases) (inr is) = exit-met result cells cases is
  exit-met result cells (Leaves pair ∷ cases) (inl is) = inl (post-met result cells pair.state is)
  exit-met result cells (Leaves pair ∷ cases) (inr is) = inr (exit-met result cells cases is)
  exit-met result cells (Drops cause ∷ cases) (inl is) = absurd is
  exit-met result cells (Drops cause ∷ cases) (inr is) = exit-met result cells cases is

  covered-does : (command : Cmd) (cases : List Case) → first_drop cases ≡ None → Cover program callees s locals heap command cases →
      Does program callees (λ next values cells. MeetsNext program.structs s next values cells (filter_map next_of cases))
      (λ result cells. MeetsOne program.structs s result cells (filter_map exit_of cases)) locals heap command
  covered-does command cases none (inl dropped) = absurd (no-drop cases none dropped)
  covered-does command cases none (inr does) =
      Does-weaker (λ next values cells. SomeOf (GoesOn program.structs s next values cells) cases)
      (λ next values cells. MeetsNext program.structs s next values cells (filter_map next_of cases))
      (λ result cells. SomeOf (HasLeft program.structs s result cells) cases)
      (λ result cells. MeetsOne program.structs s result cells (filter_map exit_of cases))
      (λ next values cells here. next-met next values cells cases here)
      (λ result cells here. exit-met result cells cases here) program callees locals heap command does

  answered : (command : Cmd) (line : ℕ) (cases : List Case) (nexts : List (ℕ × SymState)) (exits : List Post) →
      answer_to line cases ≡ step.Next nexts exits → Cover program callees s locals heap command cases →
      Does program callees (λ next values cells. MeetsNext program.structs s next values cells nexts)
      (λ result cells. MeetsOne program.structs s result cells exits) locals heap command
  answered command line cases nexts exits is cover = by_drop (first_drop cases) refl is
    where
      by_drop : (o : Option Fault) → first_drop cases ≡ o → answer line cases o ≡ step.Next nexts exits →
          Does program callees (λ next values cells. MeetsNext program.structs s next values cells nexts)
          (λ result cells. MeetsOne program.structs s result cells exits) locals heap command
      by_drop None none h =
          let same_nexts : filter_map next_of cases ≡ nexts = cc in
          let same_exits : filter_map exit_of cases ≡ exits = cc in
          subst (λ some. Does program callees (λ next values cells. MeetsNext program.structs s next values cells some)
          (λ result cells. MeetsOne program.structs s result cells exits) locals heap command) same_nexts
          (subst (λ some. Does program callees
          (λ next values cells. MeetsNext program.structs s next values cells (filter_map next_of cases))
          (λ result cells. MeetsOne program.structs s result cells some) locals heap command) same_exits
          (covered-does command cases none cover))
      by_drop (Some cause) first h = cc

pub execution_is_sound : ExecutionIsSound
execution_is_sound flow structs at node state table nexts exits executes program contains s locals heap meets =
    let there : answer_to (line_of (Some node)) (cases_at (setting_of Strict flow structs table) (nothing_missing state) (Some node))
    ≡ step.Next nexts exits = rw executes.is_node at executes.answers in
    answered program (length flow.params) structs table contains s locals heap node.cmd (line_of (Some node))
    (formed_cases (setting_of Strict flow structs table) (nothing_missing state) node.cmd) nexts exits there
    (formed-cover program (length flow.params) structs table contains s locals heap node.cmd
    (cases_of (setting_of Strict flow structs table) (nothing_missing state) node.cmd)
    (rows program (length flow.params) structs table contains s locals heap node.cmd executes.good_table executes.fits executes.uncut
    (nothing_missing state) meets))

pub execution_is_sound_beside_frames : ExecutionIsSoundBesideFrames
execution_is_sound_beside_frames flow structs at node state table nexts exits executes program contains valid number is_node s locals own
    meets frame whole sum =
    does_beside_frame program (callees_of table) valid number at node is_node state nexts exits
    (execution_is_sound flow structs at node state table nexts exits executes program contains) s locals own meets frame whole sum

pub execution_is_sound_on_any_stack : ExecutionIsSoundOnAnyStack
execution_is_sound_on_any_stack flow structs at node state table nexts exits executes program contains valid number is_node s locals own
    meets frame whole sum below caller back =
    does_on_any_stack program (callees_of table) valid number at node is_node state nexts exits
    (execution_is_sound flow structs at node state table nexts exits executes program contains) s locals own meets frame whole sum below
    caller back
