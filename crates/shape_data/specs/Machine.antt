-- The concrete machine: one step, and a run over a list of choices. A configuration is a stack of frames, of
-- which the last one runs, and a heap. A choice answers what the program leaves open: the address and content
-- of a new cell, a null pointer in its place, or the value of something that was never set.
use Rattle.std.specs.Prelude.{ℕ, ◌+◌, ◌-◌, ℤ, pos, negsuc, ◌+ℤ◌, ◌-ℤ◌, ◌*ℤ◌, int_lt, int_le, Bool, true, false, not, ◌&&◌, if◌then◌else◌}
use Rattle.std.specs.Prelude.{List, [], ◌∷◌, ◌++◌, length, map, replicate, slice_get, slice_set, slice_index_or, is_none}
use Rattle.std.specs.Ordering.{int_eq}
use Rattle.std.specs.Int.{int_wrap, w32}
use Rattle.std.specs.Str.{bytes_eq}
use Rattle.std.specs.declared.option.Option.{Option}
use Rattle.std.specs.declared.option.Option.TheVariants.{None, Some}
use Rattle.shape_data.specs.declared.answer.Fault.TheVariants as fault
use Rattle.shape_data.specs.declared.machine.Cell.{Cell}
use Rattle.shape_data.specs.declared.machine.Choice.{Choice}
use Rattle.shape_data.specs.declared.machine.Choice.TheVariants as choice
use Rattle.shape_data.specs.declared.machine.Config.{Config}
use Rattle.shape_data.specs.declared.machine.Frame.{Frame}
use Rattle.shape_data.specs.declared.machine.Outcome.{Outcome}
use Rattle.shape_data.specs.declared.machine.Outcome.TheVariants as outcome
use Rattle.shape_data.specs.declared.machine.Stepped.{Stepped}
use Rattle.shape_data.specs.declared.machine.Stepped.TheVariants as stepped
use Rattle.shape_data.specs.declared.program.ArithOp.{ArithOp}
use Rattle.shape_data.specs.declared.program.ArithOp.TheVariants.{Add, Sub, Mul}
use Rattle.shape_data.specs.declared.program.Cmd.{Cmd}
use Rattle.shape_data.specs.declared.program.Cmd.TheVariants as cmd
use Rattle.shape_data.specs.declared.program.Field.{Field}
use Rattle.shape_data.specs.declared.program.Flow.{Flow}
use Rattle.shape_data.specs.declared.program.Node.{Node}
use Rattle.shape_data.specs.declared.program.Operand.{Operand}
use Rattle.shape_data.specs.declared.program.Operand.TheVariants.{Slot, Num}
use Rattle.shape_data.specs.declared.program.Proc.{Proc}
use Rattle.shape_data.specs.declared.program.Program.{Program}
use Rattle.shape_data.specs.declared.program.StructDef.{StructDef}
use Rattle.shape_data.specs.declared.program.TestOp.{TestOp}
use Rattle.shape_data.specs.declared.program.TestOp.TheVariants as test
use Rattle.shape_data.specs.declared.program.Ty.{Ty}
use Rattle.shape_data.specs.declared.program.Ty.TheVariants.{Int, Ptr, Void}
use Rattle.shape_data.specs.Heap.{cell_at, put, with_field, without, struct_named}

-- what an operand stands for
abbrev pub operand_value : List ℤ → Operand → ℤ
operand_value locals (Slot slot) = slice_index_or locals slot (pos 0)
operand_value locals (Num n) = n

-- arithmetic on whole numbers, wrapped to 32 bits of two's complement
abbrev pub arith_value : ArithOp → ℤ → ℤ → ℤ
arith_value Add a b = int_wrap w32 (a +ℤ b)
arith_value Sub a b = int_wrap w32 (a -ℤ b)
arith_value Mul a b = int_wrap w32 (a *ℤ b)

-- a comparison of whole numbers
abbrev pub test_passes : TestOp → ℤ → ℤ → Bool
test_passes test.Eq a b = int_eq a b
test_passes test.Ne a b = not (int_eq a b)
test_passes test.Lt a b = int_lt a b
test_passes test.Le a b = int_le a b
test_passes test.Gt a b = int_lt b a
test_passes test.Ge a b = int_le b a

-- the number has 32 bits, with a sign
abbrev pub has_32_bits : ℤ → Bool
has_32_bits value = int_le (negsuc 2147483647) value && int_lt value (pos 2147483648)

-- the number is one of the type: any address or 0 for a pointer, and 32 bits for the others
abbrev pub is_of_type : Ty → ℤ → Bool
is_of_type Int value = has_32_bits value
is_of_type (Ptr name) value = int_le (pos 0) value
is_of_type Void value = has_32_bits value

-- each number is one of its field's type
abbrev pub are_of_fields : List Field → List ℤ → Bool
are_of_fields [] [] = true
are_of_fields [] (value ∷ values) = false
are_of_fields (field ∷ fields) [] = false
are_of_fields (field ∷ fields) (value ∷ values) = is_of_type field.ty value && are_of_fields fields values

-- the frame that runs, which is the last one
abbrev pub top_of : List Frame → Option Frame
top_of [] = None
top_of (frame ∷ []) = Some frame
top_of (frame ∷ next ∷ frames) = top_of (next ∷ frames)

-- the frames that wait
abbrev pub below_top : List Frame → List Frame
below_top [] = []
below_top (frame ∷ []) = []
below_top (frame ∷ next ∷ frames) = frame ∷ below_top (next ∷ frames)

-- the number of the first procedure of a name
abbrev pub proc_named_from : ℕ → List Proc → List ℕ → Option (ℕ × Proc)
proc_named_from k [] name = None
proc_named_from k (proc ∷ procs) name = if bytes_eq proc.flow.name name then Some (k, proc) else proc_named_from (k + 1) procs name

-- the frame at a node, with a value in a slot
abbrev pub moved : Frame → ℕ → ℤ → ℕ → Frame
moved frame to value next = record frame { node = next; locals = slice_set frame.locals to value }

-- the frame that runs goes on at a node
abbrev pub go_to : List Frame → Frame → List Cell → ℕ → Stepped
go_to below frame heap next = stepped.On (record { stack = below ++ record frame { node = next } ∷ []; heap = heap })

-- the frame that runs goes on at a node, with a value in a slot
abbrev pub go_with : List Frame → Frame → List Cell → ℕ → ℤ → ℕ → Stepped
go_with below frame heap to value next = stepped.On (record { stack = below ++ moved frame to value next ∷ []; heap = heap })

-- what comes of an access to a structure, from the cell at the address
abbrev pub in_cell : List ℕ → ℕ → (Cell → Stepped) → Option Cell → Stepped
in_cell kind line use_cell None = stepped.Fault line fault.Unowned
in_cell kind line use_cell (Some cell) = if bytes_eq cell.kind kind then use_cell cell else stepped.Fault line fault.Kind

-- what comes of an access to a structure at an address: null, then unowned, then of another kind (C11 6.5.2.3)
abbrev pub at_cell : List Cell → ℤ → List ℕ → ℕ → (Cell → Stepped) → Stepped
at_cell heap at kind line use_cell =
    if int_eq at (pos 0) then stepped.Fault line fault.Null else in_cell kind line use_cell (cell_at heap at)

-- a slot takes a number of its type that is chosen: what was never set, or what a procedure answers that falls off its end
abbrev pub any_step : List Frame → Frame → List Cell → ℕ → Ty → ℕ → Choice → Stepped
any_step below frame heap to ty next (choice.Value value) =
    if is_of_type ty value then go_with below frame heap to value next else stepped.BadChoice
any_step below frame heap to ty next _ = stepped.BadChoice

-- the numbers are one of each field's type
abbrev pub fit_struct : List ℤ → Option StructDef → Bool
fit_struct values None = false
fit_struct values (Some def) = are_of_fields def.fields values

-- the address that is chosen for a new cell is positive and not live, and its numbers fit the structure
abbrev pub can_be_new : Program → List Cell → List ℕ → ℤ → List ℤ → Bool
can_be_new program heap kind at fields =
    int_lt (pos 0) at && is_none (cell_at heap at) && fit_struct fields (struct_named program.structs kind)

-- a new cell: none, or one at a chosen address with chosen content (C11 7.22.3.4)
abbrev pub new_step : Program → List Frame → Frame → List Cell → ℕ → List ℕ → ℕ → Choice → Stepped
new_step program below frame heap to kind next choice.Null = go_with below frame heap to (pos 0) next
new_step program below frame heap to kind next (choice.Cell at fields) =
    if can_be_new program heap kind at fields
    then go_with below frame (put (record { at = at; kind = kind; fields = fields }) heap) to at next
    else stepped.BadChoice
new_step program below frame heap to kind next _ = stepped.BadChoice

-- the cell at the address goes, or the fault is that there is none
abbrev pub freed : List Frame → Frame → List Cell → ℤ → ℕ → ℕ → Option Cell → Stepped
freed below frame heap at line next None = stepped.Fault line fault.Unowned
freed below frame heap at line next (Some cell) = go_to below frame (without at heap) next

-- nothing comes of the null pointer; the cell of any other address goes (C11 7.22.3.3)
abbrev pub free_step : List Frame → Frame → List Cell → ℤ → ℕ → ℕ → Stepped
free_step below frame heap at line next =
    if int_eq at (pos 0) then go_to below frame heap next else freed below frame heap at line next (cell_at heap at)

-- a new frame has its arguments, and 0 in all other slots
abbrev pub new_frame : ℕ → Flow → List ℤ → Option ℕ → Frame
new_frame number flow args to =
    record { proc = number; node = 0; locals = args ++ replicate (length flow.slots - length args) (pos 0); to = to }

-- the call of the procedure that was found: the caller waits at its next node, and a new frame stands at node 0
abbrev pub called : List Frame → Frame → List Cell → ℕ → Option ℕ → List ℤ → ℕ → Option (ℕ × Proc) → Stepped
called below frame heap line to args next None = stepped.Fault line fault.Callee
called below frame heap line to args next (Some (number, proc)) =
    stepped.On (record { stack = below ++ record frame { node = next } ∷ new_frame number proc.flow args to ∷ []; heap = heap })

-- the caller's frame with the returned value in its slot
abbrev pub received : Option ℕ → ℤ → Frame → Frame
received None value frame = frame
received (Some to) value frame = record frame { locals = slice_set frame.locals to value }

-- a value is returned to the frame that waits last; where none waits, the run returns
abbrev pub returned : List Frame → Frame → List Cell → ℤ → Option Frame → Stepped
returned below frame heap value None = stepped.Returned value heap
returned below frame heap value (Some caller) =
    stepped.On (record { stack = below_top below ++ received frame.to value caller ∷ []; heap = heap })

-- one step of a frame at a command of a line
abbrev pub step_cmd : Program → List Frame → Frame → List Cell → Choice → ℕ → Cmd → Stepped
step_cmd program below frame heap choice line (cmd.Copy to from next) = go_with below frame heap to (operand_value frame.locals from) next
step_cmd program below frame heap choice line (cmd.Arith to op left right next) =
    go_with below frame heap to (arith_value op (operand_value frame.locals left) (operand_value frame.locals right)) next
step_cmd program below frame heap choice line (cmd.Any to ty next) = any_step below frame heap to ty next choice
step_cmd program below frame heap choice line (cmd.Load to base kind field next) =
    at_cell heap (slice_index_or frame.locals base (pos 0)) kind line
    (λ cell. go_with below frame heap to (slice_index_or cell.fields field (pos 0)) next)
step_cmd program below frame heap choice line (cmd.Store base kind field from next) =
    let at = slice_index_or frame.locals base (pos 0) in
    at_cell heap at kind line (λ cell. go_to below frame (with_field heap at field (operand_value frame.locals from)) next)
step_cmd program below frame heap choice line (cmd.New to kind next) = new_step program below frame heap to kind next choice
step_cmd program below frame heap choice line (cmd.Free base kind next) =
    free_step below frame heap (slice_index_or frame.locals base (pos 0)) line next
step_cmd program below frame heap choice line (cmd.Call to callee args next) =
    called below frame heap line to (map (operand_value frame.locals) args) next (proc_named_from 0 program.procs callee)
step_cmd program below frame heap choice line (cmd.Branch op pointers left right on_true on_false) =
    go_to below frame heap
    (if test_passes op (operand_value frame.locals left) (operand_value frame.locals right) then on_true else on_false)
step_cmd program below frame heap choice line (cmd.Return value) =
    returned below frame heap (operand_value frame.locals value) (top_of below)

-- one step of a frame at a node
abbrev pub step_at : Program → List Frame → Frame → List Cell → Choice → Proc → Option Node → Stepped
step_at program below frame heap choice proc None = stepped.BadChoice
step_at program below frame heap choice proc (Some node) = step_cmd program below frame heap choice (proc.line + node.line) node.cmd

-- one step of a frame in a procedure
abbrev pub step_in : Program → List Frame → Frame → List Cell → Choice → Option Proc → Stepped
step_in program below frame heap choice None = stepped.BadChoice
step_in program below frame heap choice (Some proc) = step_at program below frame heap choice proc (slice_get proc.flow.nodes frame.node)

-- one step of the frame that runs
abbrev pub step_top : Program → List Frame → List Cell → Choice → Option Frame → Stepped
step_top program below heap choice None = stepped.BadChoice
step_top program below heap choice (Some frame) = step_in program below frame heap choice (slice_get program.procs frame.proc)

-- one step of the machine. Where no frame runs, or its procedure or node is not there, the step is a bad choice
abbrev pub step : Program → Config → Choice → Stepped
step program config choice = step_top program (below_top config.stack) config.heap choice (top_of config.stack)

-- how a run goes on after a step
abbrev pub run_after : ℕ → (Config → Outcome) → Stepped → Outcome
run_after index go_on (stepped.On next) = go_on next
run_after index go_on (stepped.Returned value heap) = outcome.Returned value heap
run_after index go_on (stepped.Fault line cause) = outcome.Fault line cause
run_after index go_on stepped.BadChoice = outcome.BadChoice index

-- the steps of a list of choices, the first of which has a number
abbrev pub run_from : Program → Config → List Choice → ℕ → Outcome
run_from program config [] index = outcome.Running config
run_from program config (choice ∷ choices) index =
    run_after index (λ next. run_from program next choices (index + 1)) (step program config choice)

-- a run: one step for each choice, until the list ends or a step gives no configuration
abbrev pub run : Program → Config → List Choice → Outcome
run program config choices = run_from program config choices 0

-- a procedure of a number with its arguments, over a heap
abbrev pub start : Flow → ℕ → List ℤ → List Cell → Config
start flow number args heap = record { stack = new_frame number flow args None ∷ []; heap = heap }
