-- The cases of a command are well formed, and so is what strict execution answers.
use Rattle.std.specs.Prelude.{◌≡◌, ℕ, ◌+◌, ◌≤◌, List, length, All}
use Rattle.std.specs.declared.option.Option.TheVariants.{Some}
use Rattle.std.proofs.Common.{arith}
use Rattle.std.proofs.lemmas.List.Elements.{All-nil, All-weaker}
use Rattle.shape_data.specs.declared.program.Cmd.{Cmd}
use Rattle.shape_data.specs.declared.program.Cmd.TheVariants as cmd
use Rattle.shape_data.specs.declared.program.StructDef.{StructDef}
use Rattle.shape_data.specs.WellFormed.{AreStructs, IsAtom, IsCmd, IsFact, IsNode, widest}
use Rattle.sym_pure.proofs.EachLaws.{All-get}
use Rattle.sym_canon.specs.declared.parts.Pair.{Pair}
use Rattle.exec_laws.specs.declared.parts.Mode.{Mode}
use Rattle.exec_laws.specs.declared.parts.Mode.TheVariants.{Strict}
use Rattle.exec_laws.specs.declared.parts.Step.TheVariants as step
use Rattle.exec_laws.specs.declared.parts.Table.{Table}
use Rattle.exec_laws.specs.Execution.{answer_to, cases_at, cases_of, first_drop, formed_cases, line_of, nothing_missing, setting_of}
use Rattle.exec_laws.specs.Laws.{AllAnswersAreWellFormed, AllRowsKeepWellFormed, AnswersAreWellFormed, CallsKeepWellFormed, FitsTable}
use Rattle.exec_laws.specs.Laws.{IsNoCall, IsTableWithin, RowsKeepWellFormed}
use Rattle.exec_laws.specs.Pairs.{Setting}
use Rattle.exec_laws.specs.Rooms.{may_miss, IsCaseWithin, IsPairWithin}
use Rattle.exec_laws.proofs.CallRooms.{call-room, case-more}
use Rattle.exec_laws.proofs.CaseRooms.{any-room, arith-room, branch-room, copy-room, free-room, load-room, new-room, return-room}
use Rattle.exec_laws.proofs.CaseRooms.{store-room}
use Rattle.exec_laws.proofs.FormedRooms.{answer-good}

module _ (structs : List StructDef) (are : AreStructs structs) (params slots nodes : ℕ) (narrow : slots ≤ 32768) (mode : Mode) (count : ℕ)
    (known : count ≤ 32768) (table : Table)
    (k j : ℕ) (few : k ≤ 4000) (small : j ≤ 8000) (pair : Pair) (room : IsPairWithin structs params slots k j pair) where
  abbrev setting : Setting
  setting = record { mode = mode; params = count; structs = structs; table = table }

  pub rows-room : (command : Cmd) → IsNoCall command → IsCmd structs slots nodes command
      → All (IsCaseWithin structs params slots nodes (k + 3) (j + 3)) (cases_of setting pair command)
  rows-room (cmd.Copy to from next) no_call good =
      copy-room structs are params slots nodes narrow mode count known table k j few small pair room to from next good.2
  rows-room (cmd.Arith to op left right next) no_call good =
      arith-room structs are params slots nodes narrow mode count known table k j few small pair room to op left right next good.3
  rows-room (cmd.Any to ty next) no_call good =
      any-room structs are params slots nodes narrow mode count known table k j few small pair room to next good.1
  rows-room (cmd.Load to base kind field next) no_call good =
      load-room structs are params slots nodes narrow mode count known table k j few small pair room to base kind field next good.3
  rows-room (cmd.Store base kind field from next) no_call good =
      store-room structs are params slots nodes narrow mode count known table k j few small pair room base kind field from next good.3
  rows-room (cmd.New to kind next) no_call good =
      new-room structs are params slots nodes narrow mode count known table k j few small pair room to kind next good.2
  rows-room (cmd.Free base kind next) no_call good =
      free-room structs are params slots nodes narrow mode count known table k j few small pair room base kind next good.2
  rows-room (cmd.Call to callee args next) no_call good = absurd no_call
  rows-room (cmd.Branch op pointers left right on_true on_false) no_call good =
      branch-room structs are params slots nodes narrow mode count known table k j few small pair room op pointers left right on_true
      on_false good.2 good.3
  rows-room (cmd.Return from) no_call good =
      return-room structs are params slots nodes narrow mode count known table k j few small pair room from

  -- the rows of all commands
  module _ (most : ℕ) (some : 3 ≤ most) (few_most : most ≤ 4000) (good_table : IsTableWithin structs most table) where
    row-more : (command : Cmd) → IsNoCall command → IsCmd structs slots nodes command
        → All (IsCaseWithin structs params slots nodes (k + most + may_miss mode most) (j + most + may_miss mode most))
        (cases_of setting pair command)
    row-more command no_call good =
        All-weaker (IsCaseWithin structs params slots nodes (k + 3) (j + 3))
        (IsCaseWithin structs params slots nodes (k + most + may_miss mode most) (j + most + may_miss mode most))
        (case-more structs are params slots nodes (k + 3) (j + 3) (k + most + may_miss mode most) (j + most + may_miss mode most)
        (omega arith) (omega arith)) (cases_of setting pair command) (rows-room command no_call good)

    pub all-rows-room : (command : Cmd) → FitsTable table command → IsCmd structs slots nodes command
        → All (IsCaseWithin structs params slots nodes (k + most + may_miss mode most) (j + most + may_miss mode most))
        (cases_of setting pair command)
    all-rows-room (cmd.Call to callee args next) fits good =
        call-room structs are params slots nodes narrow mode count known table k j few small pair room most few_most good_table to callee
        args
        next good.3 fits
    all-rows-room (cmd.Copy to from next) fits good = row-more (cmd.Copy to from next) tt good
    all-rows-room (cmd.Arith to op left right next) fits good = row-more (cmd.Arith to op left right next) tt good
    all-rows-room (cmd.Any to ty next) fits good = row-more (cmd.Any to ty next) tt good
    all-rows-room (cmd.Load to base kind field next) fits good = row-more (cmd.Load to base kind field next) tt good
    all-rows-room (cmd.Store base kind field from next) fits good = row-more (cmd.Store base kind field from next) tt good
    all-rows-room (cmd.New to kind next) fits good = row-more (cmd.New to kind next) tt good
    all-rows-room (cmd.Free base kind next) fits good = row-more (cmd.Free base kind next) tt good
    all-rows-room (cmd.Branch op pointers left right on_true on_false) fits good =
        row-more (cmd.Branch op pointers left right on_true on_false) tt good
    all-rows-room (cmd.Return from) fits good = row-more (cmd.Return from) tt good

pub rows_keep_well_formed : RowsKeepWellFormed
rows_keep_well_formed setting pair command params slots nodes parts weight are no_call good narrow known few small room =
    rows-room setting.structs are params slots nodes narrow setting.mode setting.params known setting.table parts weight few small pair room
    command no_call good

pub answers_are_well_formed : AnswersAreWellFormed
answers_are_well_formed flow structs at node state table nexts exits parts are good is_node no_call few well is =
    let there : answer_to (line_of (Some node)) (cases_at (setting_of Strict flow structs table) (nothing_missing state) (Some node))
    ≡ step.Next nexts exits = rw is_node at is in
    let narrow = good.slots in
    let known : length flow.params ≤ 32768 = good.params.few in
    let command = (All-get (IsNode structs (length flow.slots) (length flow.nodes)) flow.nodes at node is_node good.nodes).command in
    let held : length state.heap.pure + length state.heap.spatial ≤ parts = well.heap.parts in
    let room : IsPairWithin structs (length flow.params) (length flow.slots) parts parts (nothing_missing state) =
    record {
      state = well;
      facts = All-nil (IsFact widest (length flow.params));
      atoms = All-nil (IsAtom widest structs (length flow.params));
      light = omega arith;
    } in
    answer-good structs are (length flow.params) (length flow.slots) (length flow.nodes) narrow table (parts + 3) (parts + 3) (omega arith)
    (line_of (Some node))
    (cases_of (setting_of Strict flow structs table) (nothing_missing state) node.cmd)
    (first_drop (formed_cases (setting_of Strict flow structs table) (nothing_missing state) node.cmd))
    (rows-room structs are (length flow.params) (length flow.slots) (length flow.nodes) narrow Strict
    (length flow.params) known table parts parts few (omega arith) (nothing_missing state) room node.cmd no_call command) nexts exits there

pub calls_keep_well_formed : CallsKeepWellFormed
calls_keep_well_formed setting pair to callee args next params slots nodes parts weight most are table fits there narrow known few small
    few_most room =
    call-room setting.structs are params slots nodes narrow setting.mode setting.params known setting.table parts weight few small pair room
    most few_most table to callee args next there fits

pub all_rows_keep_well_formed : AllRowsKeepWellFormed
all_rows_keep_well_formed setting pair command params slots nodes parts weight most are table fits good narrow known few small some few_most
    room =
    all-rows-room setting.structs are params slots nodes narrow setting.mode setting.params known setting.table parts weight few small pair
    room most some few_most table command fits good

pub all_answers_are_well_formed : AllAnswersAreWellFormed
all_answers_are_well_formed flow structs at node state table nexts exits parts most are good is_node good_table fits few some few_most well
    is =
    let there : answer_to (line_of (Some node)) (cases_at (setting_of Strict flow structs table) (nothing_missing state) (Some node))
    ≡ step.Next nexts exits = rw is_node at is in
    let narrow = good.slots in
    let known : length flow.params ≤ 32768 = good.params.few in
    let command = (All-get (IsNode structs (length flow.slots) (length flow.nodes)) flow.nodes at node is_node good.nodes).command in
    let held : length state.heap.pure + length state.heap.spatial ≤ parts = well.heap.parts in
    let room : IsPairWithin structs (length flow.params) (length flow.slots) parts parts (nothing_missing state) =
    record {
      state = well;
      facts = All-nil (IsFact widest (length flow.params));
      atoms = All-nil (IsAtom widest structs (length flow.params));
      light = omega arith;
    } in
    let cases : All
    (IsCaseWithin structs (length flow.params) (length flow.slots) (length flow.nodes) (parts + most + 0) (parts + most + 0))
    (cases_of (setting_of Strict flow structs table) (nothing_missing state) node.cmd) =
    all-rows-room structs are (length flow.params) (length flow.slots) (length flow.nodes) narrow Strict
    (length flow.params) known table parts parts few (omega arith)
    (nothing_missing state) room most some few_most good_table node.cmd fits command in
    answer-good structs are (length flow.params) (length flow.slots) (length flow.nodes) narrow table (parts + most) (parts + most)
    (omega arith) (line_of (Some node))
    (cases_of (setting_of Strict flow structs table) (nothing_missing state) node.cmd)
    (first_drop (formed_cases (setting_of Strict flow structs table) (nothing_missing state) node.cmd))
    (All-weaker (IsCaseWithin structs (length flow.params) (length flow.slots) (length flow.nodes) (parts + most + 0) (parts + most + 0))
    (IsCaseWithin structs (length flow.params) (length flow.slots) (length flow.nodes) (parts + most) (parts + most))
    (case-more structs are (length flow.params) (length flow.slots) (length flow.nodes) (parts + most + 0) (parts + most + 0) (parts + most)
    (parts + most) (omega arith) (omega arith))
    (cases_of (setting_of Strict flow structs table) (nothing_missing state) node.cmd) cases) nexts exits there
