-- A step of a well-formed configuration, by its command.
use Rattle.std.specs.Prelude.{◌≡◌, ℕ, ◌+◌, ◌<◌, ◌≤◌, ℤ, pos, Bool, true, false, if◌then◌else◌, List, [], ◌∷◌, length, map, slice_get}
use Rattle.std.specs.Prelude.{slice_set, slice_index_or, All, IfSome}
use Rattle.std.specs.Option.{IsSomeAnd}
use Rattle.std.specs.Ordering.{int_eq}
use Rattle.std.specs.Str.{bytes_eq}
use Rattle.std.specs.declared.option.Option.{Option}
use Rattle.std.specs.declared.option.Option.TheVariants.{None, Some}
use Rattle.std.proofs.Common.{refl, sym, ◌∙◌, arith}
use Rattle.std.proofs.lemmas.List.{length-set, length-map}
use Rattle.shape_data.specs.declared.machine.Cell.{Cell}
use Rattle.shape_data.specs.declared.machine.Choice.{Choice}
use Rattle.shape_data.specs.declared.machine.Choice.TheVariants as choice
use Rattle.shape_data.specs.declared.machine.Config.{Config}
use Rattle.shape_data.specs.declared.machine.Frame.{Frame}
use Rattle.shape_data.specs.declared.machine.Stepped.{Stepped}
use Rattle.shape_data.specs.declared.machine.Stepped.TheVariants as stepped
use Rattle.shape_data.specs.declared.program.Cmd.{Cmd}
use Rattle.shape_data.specs.declared.program.Cmd.TheVariants as cmd
use Rattle.shape_data.specs.declared.program.Node.{Node}
use Rattle.shape_data.specs.declared.program.Proc.{Proc}
use Rattle.shape_data.specs.declared.program.Program.{Program}
use Rattle.shape_data.specs.declared.program.Ty.{Ty}
use Rattle.shape_data.specs.Heap.{cell_at, put, without, with_field, IsHeap}
use Rattle.shape_data.specs.Machine.{operand_value, is_of_type, test_passes, top_of, below_top, proc_named_from, moved, go_to, go_with}
use Rattle.shape_data.specs.Machine.{in_cell, at_cell, any_step, can_be_new, new_step, freed, free_step, new_frame, called, received}
use Rattle.shape_data.specs.Machine.{returned, step_cmd, step_at, step_in, step_top, step, run_after, run_from}
use Rattle.shape_data.specs.WellFormed.{IsCmd, IsNode, IsFlow, HasLines, FitsCall, FitCalls, IsProgram, IsFrame, ReturnsInto, AreFrames}
use Rattle.shape_data.specs.WellFormed.{IsConfig}
use Rattle.sym_parts.specs.Shapes.Steps.{TakesChoice, MayBeBad, IsStepOf, StepIsNeverStuck, IsRunOf, RunIsNeverStuck, StartIsConfig}
use Rattle.sym_parts.proofs.ShapesLemmas.FrameSteps.{new_cell_fits}
use Rattle.sym_parts.proofs.ShapesLemmas.Cells.{IsHeap-put, IsHeap-without, IsHeap-with_field}
use Rattle.sym_parts.proofs.ShapesLemmas.StepsStacks.{
  All-at,
  within-some,
  some_pushed,
  some_pushed_two,
  stack_is,
  no_top,
  last_of,
  AreFrames-append,
}
use Rattle.sym_parts.proofs.ShapesLemmas.StepsStacks.{AreFrames-split, IsFrame-of, proc_found, new_frame_locals}

-- `IsStepOf`, where what a bad choice tells is left open
abbrev pub Keeps : Program → Type 0 → Stepped → Type 0
Keeps program Bad (stepped.On next) = IsConfig program next
Keeps program Bad (stepped.Returned value heap) = IsHeap program.structs heap
Keeps program Bad (stepped.Fault line cause) = line < 4294967296
Keeps program Bad stepped.BadChoice = Bad

-- a procedure that the program has, given one argument for each parameter, gets a well-formed frame
pub new_frame_is : (program : Program) (number : ℕ) (proc : Proc) (args : List ℤ) (to : Option ℕ) → IsProgram program →
    slice_get program.procs number ≡ Some proc →
    length args ≡ length proc.flow.params → IsFrame program (new_frame number proc.flow args to)
new_frame_is program number proc args to is_program is one_each =
    let is_flow : IsFlow program.structs proc.flow =
    All-at (λ one. IsFlow program.structs one.flow) program.procs number proc is_program.flows is in
    let room : length proc.flow.params ≤ length proc.flow.slots = is_flow.param_slots in
    let few : length args ≤ length proc.flow.slots = rw one_each room in
    IsFrame-of program (new_frame number proc.flow args to) proc is is_flow.entry (new_frame_locals number proc.flow args to few)

-- a value that is received leaves a frame well formed
received_is : (program : Program) (to : Option ℕ) (value : ℤ) (caller : Frame) → IsFrame program caller →
    IsFrame program (received to value caller)
received_is program None value caller is = is
received_is program (Some slot) value caller is = by_proc (slice_get program.procs caller.proc) is
  where
    by_proc : (proc : Option Proc) →
        IsSomeAnd proc (λ proc. (caller.node < length proc.flow.nodes) × (length caller.locals ≡ length proc.flow.slots)) →
        IsSomeAnd proc
        (λ proc. (caller.node < length proc.flow.nodes) × (length (slice_set caller.locals slot value) ≡ length proc.flow.slots))
    by_proc None is = is
    by_proc (Some proc) is = (is.0, length-set caller.locals slot value ∙ is.1)

-- where it returns to is not changed by it
received_into : (under : Option Frame) (to : Option ℕ) (value : ℤ) (caller : Frame) → ReturnsInto under caller →
    ReturnsInto under (received to value caller)
received_into under None value caller into = into
received_into None (Some slot) value caller into = into
received_into (Some other) (Some slot) value caller into = into

module _ (program : Program) (is_program : IsProgram program) (below : List Frame) (waits : AreFrames program None below) (top : Frame)
    (into : ReturnsInto (last_of None below) top)
    (proc : Proc) (is_proc : slice_get program.procs top.proc ≡ Some proc) (locals : length top.locals ≡ length proc.flow.slots)
    (heap : List Cell) (is_heap : IsHeap program.structs heap) (line : ℕ) (has_line : line < 4294967296) where
  -- the frame that runs, at a node that is there
  to_kept : (Bad : Type 0) (new_heap : List Cell) → IsHeap program.structs new_heap → (next : ℕ) → next < length proc.flow.nodes →
      Keeps program Bad (go_to below top new_heap next)
  to_kept Bad new_heap new_is next within = record {
    some = some_pushed below (record top { node = next });
    frames =
        AreFrames-append program None below (record top { node = next } ∷ []) waits
        (IsFrame-of program (record top { node = next }) proc is_proc within locals, same_into (last_of None below) into, tt);
    heap = new_is;
  }
    where
      same_into : (under : Option Frame) → ReturnsInto under top → ReturnsInto under (record top { node = next })
      same_into None h = h
      same_into (Some caller) h = h

  with_kept : (Bad : Type 0) (new_heap : List Cell) → IsHeap program.structs new_heap → (to : ℕ) (value : ℤ) (next : ℕ) →
      next < length proc.flow.nodes → Keeps program Bad (go_with below top new_heap to value next)
  with_kept Bad new_heap new_is to value next within = record {
    some = some_pushed below (moved top to value next);
    frames = AreFrames-append program None below (moved top to value next ∷ []) waits (
      IsFrame-of program (moved top to value next) proc is_proc within (length-set top.locals to value ∙ locals),
      same_into
          (last_of None below) into,
      tt,
    );
    heap = new_is;
  }
    where
      same_into : (under : Option Frame) → ReturnsInto under top → ReturnsInto under (moved top to value next)
      same_into None h = h
      same_into (Some caller) h = h

  any_kept : (to : ℕ) (ty : Ty) (next : ℕ) → next < length proc.flow.nodes → (choice : Choice) →
      Keeps program (Unit {0}) (any_step below top heap to ty next choice)
  any_kept to ty next within choice.Null = tt
  any_kept to ty next within (choice.Cell at fields) = tt
  any_kept to ty next within choice.Go = tt
  any_kept to ty next within (choice.Value value) = by_test (is_of_type ty value) refl
    where
      by_test : (b : Bool) → is_of_type ty value ≡ b → Keeps program (Unit {0}) (any_step below top heap to ty next (choice.Value value))
      by_test true e = rw e (with_kept (Unit {0}) heap is_heap to value next within)
      by_test false e = rw e tt

  in_cell_kept : (Bad : Type 0) (kind : List ℕ) (use_cell : Cell → Stepped) (found : Option Cell) →
      ((cell : Cell) → Keeps program Bad (use_cell cell)) → Keeps program Bad (in_cell kind line use_cell found)
  in_cell_kept Bad kind use_cell None kept = has_line
  in_cell_kept Bad kind use_cell (Some cell) kept = by_test (bytes_eq cell.kind kind) refl
    where
      by_test : (b : Bool) → bytes_eq cell.kind kind ≡ b → Keeps program Bad (in_cell kind line use_cell (Some cell))
      by_test true e = rw e (kept cell)
      by_test false e = rw e has_line

  at_cell_kept : (Bad : Type 0) (at : ℤ) (kind : List ℕ) (use_cell : Cell → Stepped) → ((cell : Cell) → Keeps program Bad (use_cell cell)) →
      Keeps program Bad (at_cell heap at kind line use_cell)
  at_cell_kept Bad at kind use_cell kept = by_test (int_eq at (pos 0)) refl
    where
      by_test : (b : Bool) → int_eq at (pos 0) ≡ b → Keeps program Bad (at_cell heap at kind line use_cell)
      by_test true e = rw e has_line
      by_test false e = rw e (in_cell_kept Bad kind use_cell (cell_at heap at) kept)

  new_kept : (to : ℕ) (kind : List ℕ) (next : ℕ) → next < length proc.flow.nodes → (choice : Choice) →
      Keeps program (Unit {0}) (new_step program below top heap to kind next choice)
  new_kept to kind next within choice.Null = with_kept (Unit {0}) heap is_heap to (pos 0) next within
  new_kept to kind next within (choice.Value value) = tt
  new_kept to kind next within choice.Go = tt
  new_kept to kind next within (choice.Cell at fields) = by_test (can_be_new program heap kind at fields) refl
    where
      cell : Cell
      cell = record { at = at; kind = kind; fields = fields }

      by_test : (b : Bool) → can_be_new program heap kind at fields ≡ b →
          Keeps program (Unit {0}) (new_step program below top heap to kind next (choice.Cell at fields))
      by_test true e =
          let fits = new_cell_fits program heap kind at fields e in
          rw e (with_kept (Unit {0}) (put cell heap) (IsHeap-put cell fits.0 fits.1 is_heap) to at next within)
      by_test false e = rw e tt

  free_kept : (Bad : Type 0) (at : ℤ) (next : ℕ) → next < length proc.flow.nodes → Keeps program Bad (free_step below top heap at line next)
  free_kept Bad at next within = by_test (int_eq at (pos 0)) refl
    where
      by_found : (found : Option Cell) → Keeps program Bad (freed below top heap at line next found)
      by_found None = has_line
      by_found (Some cell) = to_kept Bad (without at heap) (IsHeap-without at is_heap) next within

      by_test : (b : Bool) → int_eq at (pos 0) ≡ b → Keeps program Bad (free_step below top heap at line next)
      by_test true e = rw e (to_kept Bad heap is_heap next within)
      by_test false e = rw e (by_found (cell_at heap at))

  called_kept : (Bad : Type 0) (to : Option ℕ) (callee : List ℕ) (args : List ℤ) (next : ℕ) → next < length proc.flow.nodes →
      IfSome to (λ slot. slot < length proc.flow.slots) →
      All (λ (one : Proc). one.flow.name ≡ callee → length one.flow.params ≡ length args) program.procs →
      (found : Option (ℕ × Proc)) → proc_named_from 0 program.procs callee ≡ found →
      Keeps program Bad (called below top heap line to args next found)
  called_kept Bad to callee args next within has_to fits None is = has_line
  called_kept Bad to callee args next within has_to fits (Some (number, other)) is = record {
    some = some_pushed_two below (record top { node = next }) (new_frame number other.flow args to);
    frames = AreFrames-append program None below (record top { node = next } ∷ new_frame number other.flow args to ∷ []) waits (
      IsFrame-of program (record top { node = next }) proc is_proc within locals,
      same_into (last_of None below) into,
      (callee_is, to_caller to has_to, tt),
    );
    heap = is_heap;
  }
    where
      same_into : (under : Option Frame) → ReturnsInto under top → ReturnsInto under (record top { node = next })
      same_into None h = h
      same_into (Some caller) h = h

      to_caller : (to : Option ℕ) → IfSome to (λ slot. slot < length proc.flow.slots) → IfSome to (λ slot. slot < length top.locals)
      to_caller None h = h
      to_caller (Some slot) h = rw locals h

      stands : slice_get program.procs number ≡ Some other
      stands =
          let told = proc_found 0 program.procs callee (number, other) is in
          let place : number ≡ told.0 = told.1 ∙ omega arith in
          rw place told.2

      callee_is : IsFrame program (new_frame number other.flow args to)
      callee_is =
          let told = proc_found 0 program.procs callee (number, other) is in
          let one_each : length other.flow.params ≡ length args =
          All-at (λ one. one.flow.name ≡ callee → length one.flow.params ≡ length args) program.procs number other fits stands told.3 in
          new_frame_is program number other args to is_program stands (sym one_each)

  returned_kept : (Bad : Type 0) (value : ℤ) (caller : Option Frame) → top_of below ≡ caller →
      Keeps program Bad (returned below top heap value caller)
  returned_kept Bad value None is = is_heap
  returned_kept Bad value (Some caller) is = record {
    some = some_pushed (below_top below) (received top.to value caller);
    frames = AreFrames-append program None (below_top below) (received top.to value caller ∷ []) parts.0 (
      received_is program top.to value caller parts.1.0,
      received_into
          (last_of None (below_top below)) top.to value caller parts.1.1,
      tt,
    );
    heap = is_heap;
  }
    where
      parts : AreFrames program None (below_top below) × AreFrames program (last_of None (below_top below)) (caller ∷ [])
      parts = AreFrames-split program None (below_top below) (caller ∷ []) (rw (stack_is below caller is) at waits)

  cmd_kept : (choice : Choice) (command : Cmd) → IsCmd program.structs (length proc.flow.slots) (length proc.flow.nodes) command →
      FitsCall (λ (one : Proc). one.flow.name) (λ (one : Proc). one.flow.params) program.procs command →
      Keeps program (TakesChoice command) (step_cmd program below top heap choice line command)
  cmd_kept choice (cmd.Copy to from next) is fits = with_kept ⊥ heap is_heap to (operand_value top.locals from) next is.2
  cmd_kept choice (cmd.Arith to op left right next) is fits = with_kept ⊥ heap is_heap to _ next is.3
  cmd_kept choice (cmd.Any to ty next) is fits = any_kept to ty next is.1 choice
  cmd_kept choice (cmd.Load to base kind field next) is fits =
      at_cell_kept ⊥ (slice_index_or top.locals base (pos 0)) kind
      (λ cell. go_with below top heap to (slice_index_or cell.fields field (pos 0)) next)
      (λ cell. with_kept ⊥ heap is_heap to (slice_index_or cell.fields field (pos 0)) next is.3)
  cmd_kept choice (cmd.Store base kind field from next) is fits =
      at_cell_kept ⊥ (slice_index_or top.locals base (pos 0)) kind
      (λ cell. go_to below top (with_field heap (slice_index_or top.locals base (pos 0)) field (operand_value top.locals from)) next)
      (λ cell. to_kept ⊥ (with_field heap (slice_index_or top.locals base (pos 0)) field (operand_value top.locals from))
      (IsHeap-with_field (slice_index_or top.locals base (pos 0)) field (operand_value top.locals from) is_heap) next is.3)
  cmd_kept choice (cmd.New to kind next) is fits = new_kept to kind next is.2 choice
  cmd_kept choice (cmd.Free base kind next) is fits = free_kept ⊥ (slice_index_or top.locals base (pos 0)) next is.2
  cmd_kept choice (cmd.Call to callee args next) is fits =
      called_kept ⊥ to callee (map (operand_value top.locals) args) next is.3 is.0 (rw (length-map args (operand_value top.locals)) fits)
      (proc_named_from 0 program.procs callee) refl
  cmd_kept choice (cmd.Branch op pointers left right on_true on_false) is fits =
      by_test (test_passes op (operand_value top.locals left) (operand_value top.locals right))
    where
      by_test : (b : Bool) → Keeps program ⊥ (go_to below top heap (if b then on_true else on_false))
      by_test true = to_kept ⊥ heap is_heap on_true is.2
      by_test false = to_kept ⊥ heap is_heap on_false is.3
  cmd_kept choice (cmd.Return value) is fits = returned_kept ⊥ (operand_value top.locals value) (top_of below) refl

-- ---- the node, the procedure and the frame that run

module _ (program : Program) (is_program : IsProgram program) (below : List Frame) (waits : AreFrames program None below) (heap : List Cell)
    (is_heap : IsHeap program.structs heap) where
  -- a bad choice comes only where the command takes one
  at_kept : (top : Frame) → ReturnsInto (last_of None below) top → (proc : Proc) → slice_get program.procs top.proc ≡ Some proc →
      length top.locals ≡ length proc.flow.slots →
      (choice : Choice) (node : Option Node) → slice_get proc.flow.nodes top.node ≡ node → top.node < length proc.flow.nodes →
      Keeps program (IsSomeAnd node (λ node. TakesChoice node.cmd)) (step_at program below top heap choice proc node)
  at_kept top into proc is_proc locals choice None is within =
      let there = within-some proc.flow.nodes top.node within in
      let wrong : None ≡ Some there.0 = sym is ∙ there.1 in
      cc
  at_kept top into proc is_proc locals choice (Some node) is within =
      cmd_kept program is_program below waits top into proc is_proc locals heap is_heap
      (proc.line + node.line) has_line choice node.cmd is_node.command fits
    where
      is_flow : IsFlow program.structs proc.flow
      is_flow = All-at (λ one. IsFlow program.structs one.flow) program.procs top.proc proc is_program.flows is_proc

      is_node : IsNode program.structs (length proc.flow.slots) (length proc.flow.nodes) node
      is_node =
          All-at (IsNode program.structs (length proc.flow.slots) (length proc.flow.nodes)) proc.flow.nodes top.node node is_flow.nodes is

      has_line : proc.line + node.line < 4294967296
      has_line =
          All-at (λ node. proc.line + node.line < 4294967296) proc.flow.nodes top.node node
          (All-at HasLines program.procs top.proc proc is_program.lines is_proc) is

      fits : FitsCall (λ (one : Proc). one.flow.name) (λ (one : Proc). one.flow.params) program.procs node.cmd
      fits =
          All-at (λ node. FitsCall (λ (one : Proc). one.flow.name)
          (λ (one : Proc). one.flow.params) program.procs node.cmd) proc.flow.nodes top.node node
          (All-at (λ one. FitCalls (λ (one : Proc). one.flow.name)
          (λ (one : Proc). one.flow.params) program.procs one.flow) program.procs top.proc proc is_program.calls is_proc) is

  in_kept : (top : Frame) → ReturnsInto (last_of None below) top → (choice : Choice) (proc : Option Proc) →
      slice_get program.procs top.proc ≡ proc →
      IsSomeAnd proc (λ proc. (top.node < length proc.flow.nodes) × (length top.locals ≡ length proc.flow.slots)) →
      Keeps program (IsSomeAnd proc (λ proc. IsSomeAnd (slice_get proc.flow.nodes top.node) (λ node. TakesChoice node.cmd)))
      (step_in program below top heap choice proc)
  in_kept top into choice None is frame_is = absurd frame_is
  in_kept top into choice (Some proc) is frame_is =
      at_kept top into proc is frame_is.1 choice (slice_get proc.flow.nodes top.node) refl frame_is.0

-- `Keeps` of the config's own command is `IsStepOf`
kept_step : (program : Program) (config : Config) (stepped : Stepped) → Keeps program (MayBeBad program config) stepped →
    IsStepOf program config stepped
kept_step program config (stepped.On next) kept = kept
kept_step program config (stepped.Returned value heap) kept = kept
kept_step program config (stepped.Fault line cause) kept = kept
kept_step program config stepped.BadChoice kept = kept

top_kept : (program : Program) (config : Config) (choice : Choice) → IsProgram program → IsConfig program config → (top : Option Frame) →
    top_of config.stack ≡ top →
    Keeps program
    (IsSomeAnd top
    (λ frame. IsSomeAnd (slice_get program.procs frame.proc)
    (λ proc. IsSomeAnd (slice_get proc.flow.nodes frame.node) (λ node. TakesChoice node.cmd))))
    (step_top program (below_top config.stack) config.heap choice top)
top_kept program config choice is_program is_config None is =
    let some : 0 < length config.stack = is_config.some in
    let empty : config.stack ≡ [] = no_top config.stack is in
    let wrong : 0 < length {A = Frame} [] = rw empty at some in
    absurd (omega arith)
top_kept program config choice is_program is_config (Some top) is =
    in_kept program is_program (below_top config.stack) parts.0 config.heap is_config.heap top parts.1.1 choice
    (slice_get program.procs top.proc) refl parts.1.0
  where
    parts : AreFrames program None (below_top config.stack) × AreFrames program (last_of None (below_top config.stack)) (top ∷ [])
    parts = AreFrames-split program None (below_top config.stack) (top ∷ []) (rw (stack_is config.stack top is) at is_config.frames)

pub step_is_never_stuck : StepIsNeverStuck
step_is_never_stuck program config choice is_program is_config =
    kept_step program config (step program config choice) (top_kept program config choice is_program is_config (top_of config.stack) refl)

-- ---- runs

run_kept : (program : Program) → IsProgram program → (config : Config) → IsConfig program config → (choices : List Choice) (index : ℕ) →
    IsRunOf program (index + length choices) (run_from program config choices index)
run_kept program is_program config is_config [] index = is_config
run_kept program is_program config is_config (choice ∷ choices) index =
    by_step (λ next is_next. run_kept program is_program next is_next choices (index + 1)) (step program config choice)
    (step_is_never_stuck program config choice is_program is_config)
  where
    by_step : ((next : Config) → IsConfig program next →
        IsRunOf program (index + 1 + length choices) (run_from program next choices (index + 1))) →
        (stepped : Stepped) → IsStepOf program config stepped →
        IsRunOf program (index + length (choice ∷ choices)) (run_after index (λ next. run_from program next choices (index + 1)) stepped)
    by_step later (stepped.On next) is_step =
        let count : index + length (choice ∷ choices) ≡ index + 1 + length choices = omega arith in
        rw count (later next is_step)
    by_step later (stepped.Returned value heap) is_step = is_step
    by_step later (stepped.Fault line cause) is_step = is_step
    by_step later stepped.BadChoice is_step = omega arith

pub run_is_never_stuck : RunIsNeverStuck
run_is_never_stuck program config choices is_program is_config =
    let count : 0 + length choices ≡ length choices = omega arith in
    rw count at (run_kept program is_program config is_config choices 0)

pub start_is_config : StartIsConfig
start_is_config program number proc args heap is_program is_proc one_each is_heap = record {
  some = omega arith;
  frames = (new_frame_is program number proc args None is_program is_proc one_each, tt, tt);
  heap = is_heap;
}
