-- A call on top of frames that wait: its steps and its run are those of the call alone.
use Rattle.std.specs.Prelude.{◌≡◌, ℕ, ◌+◌, ℤ, pos, Bool, true, false, if◌then◌else◌, List, [], ◌∷◌, ◌++◌, slice_get, slice_set}
use Rattle.std.specs.Prelude.{slice_index_or}
use Rattle.std.specs.Ordering.{int_eq}
use Rattle.std.specs.Str.{bytes_eq}
use Rattle.std.specs.declared.option.Option.{Option}
use Rattle.std.specs.declared.option.Option.TheVariants.{None, Some}
use Rattle.std.proofs.Common.{refl, sym, ap, ◌∙◌}
use Rattle.std.proofs.lemmas.List.{append_assoc}
use Rattle.shape_data.specs.declared.answer.Fault.TheVariants as fault
use Rattle.shape_data.specs.declared.machine.Cell.{Cell}
use Rattle.shape_data.specs.declared.machine.Choice.{Choice}
use Rattle.shape_data.specs.declared.machine.Choice.TheVariants as choice
use Rattle.shape_data.specs.declared.machine.Config.{Config}
use Rattle.shape_data.specs.declared.machine.Frame.{Frame}
use Rattle.shape_data.specs.declared.machine.Outcome.{Outcome}
use Rattle.shape_data.specs.declared.machine.Outcome.TheVariants as outcome
use Rattle.shape_data.specs.declared.machine.Stepped.{Stepped}
use Rattle.shape_data.specs.declared.machine.Stepped.TheVariants as stepped
use Rattle.shape_data.specs.declared.program.Cmd.{Cmd}
use Rattle.shape_data.specs.declared.program.Cmd.TheVariants as cmd
use Rattle.shape_data.specs.declared.program.Node.{Node}
use Rattle.shape_data.specs.declared.program.Proc.{Proc}
use Rattle.shape_data.specs.declared.program.Program.{Program}
use Rattle.shape_data.specs.declared.program.Ty.{Ty}
use Rattle.shape_data.specs.Heap.{cell_at, put, with_field}
use Rattle.shape_data.specs.Machine.{operand_value, is_of_type, top_of, below_top, proc_named_from, go_to, go_with, in_cell, at_cell}
use Rattle.shape_data.specs.Machine.{any_step, can_be_new, new_step, freed, free_step, called, received, returned, step_cmd, step_at}
use Rattle.shape_data.specs.Machine.{step_in, step_top, step, run_after, run_from}
use Rattle.sound_laws.specs.Stacks.{over_caller, config_over, step_over, CarriesOver, StepOverCaller, RunOverCaller}

-- ---- the frame that runs, and those that wait, on top of others

pub top_of-on : (below : List Frame) (first : Frame) (others : List Frame) → top_of (below ++ first ∷ others) ≡ top_of (first ∷ others)
top_of-on [] first others = refl
top_of-on (frame ∷ []) first others = refl
top_of-on (frame ∷ next ∷ frames) first others = top_of-on (next ∷ frames) first others

pub below_top-on : (below : List Frame) (first : Frame) (others : List Frame) →
    below_top (below ++ first ∷ others) ≡ below ++ below_top (first ∷ others)
below_top-on [] first others = refl
below_top-on (frame ∷ []) first others = refl
below_top-on (frame ∷ next ∷ frames) first others = ap (λ rest. frame ∷ rest) (below_top-on (next ∷ frames) first others)

pub top_of-some : (first : Frame) (others : List Frame) → (top : Frame) × (top_of (first ∷ others) ≡ Some top)
top_of-some first [] = (first, refl)
top_of-some first (second ∷ rest) = top_of-some second rest

module _ (program : Program) (below : List Frame) (caller : Frame) (to : Option ℕ) where
  -- ---- one command, where the frame that runs stands on `small` alone and on `large` in the whole stack

  module _ (small large : List Frame) (frame : Frame) (into : Option ℕ)
      (pushed : (node : ℕ) (locals : List ℤ) (others : List Frame) (heap : List Cell) →
      step_over below caller to
      (stepped.On (record {
        stack = small ++ record { proc = frame.proc; node = node; locals = locals; to = frame.to } ∷ others;
        heap = heap;
      }))
      ≡ stepped.On
      (record { stack = large ++ record { proc = frame.proc; node = node; locals = locals; to = into } ∷ others; heap = heap }))
      (back : (heap : List Cell) (value : ℤ) →
      step_over below caller to (returned small frame heap value (top_of small))
      ≡ returned large (record frame { to = into }) heap value (top_of large))
      (heap : List Cell) where
    abbrev whole_frame : Frame
    whole_frame = record frame { to = into }

    any_over : (slot : ℕ) (ty : Ty) (next : ℕ) (choice : Choice) →
        any_step large whole_frame heap slot ty next choice ≡ step_over below caller to (any_step small frame heap slot ty next choice)
    any_over slot ty next choice.Null = refl
    any_over slot ty next (choice.Cell at fields) = refl
    any_over slot ty next choice.Go = refl
    any_over slot ty next (choice.Value value) = by_test (is_of_type ty value)
      where
        by_test : (b : Bool) → (if b then go_with large whole_frame heap slot value next else stepped.BadChoice)
            ≡ step_over below caller to (if b then go_with small frame heap slot value next else stepped.BadChoice)
        by_test true = sym (pushed next _ [] heap)
        by_test false = refl

    at_cell_over : (at : ℤ) (kind : List ℕ) (line : ℕ) (use_large use_small : Cell → Stepped) →
        ((cell : Cell) → use_large cell ≡ step_over below caller to (use_small cell)) →
        at_cell heap at kind line use_large ≡ step_over below caller to (at_cell heap at kind line use_small)
    at_cell_over at kind line use_large use_small same = by_null (int_eq at (pos 0))
      where
        by_kind : (cell : Cell) (b : Bool) →
            (if b then use_large cell else stepped.Fault line fault.Kind)
            ≡ step_over below caller to (if b then use_small cell else stepped.Fault line fault.Kind)
        by_kind cell true = same cell
        by_kind cell false = refl

        by_found : (found : Option Cell) → in_cell kind line use_large found ≡ step_over below caller to (in_cell kind line use_small found)
        by_found None = refl
        by_found (Some cell) = by_kind cell (bytes_eq cell.kind kind)

        by_null : (b : Bool) → (if b then stepped.Fault line fault.Null else in_cell kind line use_large (cell_at heap at))
            ≡ step_over below caller to (if b then stepped.Fault line fault.Null else in_cell kind line use_small (cell_at heap at))
        by_null true = refl
        by_null false = by_found (cell_at heap at)

    new_over : (slot : ℕ) (kind : List ℕ) (next : ℕ) (choice : Choice) →
        new_step program large whole_frame heap slot kind next choice
        ≡ step_over below caller to (new_step program small frame heap slot kind next choice)
    new_over slot kind next choice.Null = sym (pushed next _ [] heap)
    new_over slot kind next (choice.Value value) = refl
    new_over slot kind next choice.Go = refl
    new_over slot kind next (choice.Cell at fields) = by_test (can_be_new program heap kind at fields)
      where
        by_test : (b : Bool) →
            (if b then go_with large whole_frame (put (record { at = at; kind = kind; fields = fields }) heap) slot at next
            else stepped.BadChoice)
            ≡ step_over below caller to
            (if b then go_with small frame (put (record { at = at; kind = kind; fields = fields }) heap) slot at next
            else stepped.BadChoice)
        by_test true = sym (pushed next _ [] _)
        by_test false = refl

    free_over : (at : ℤ) (line next : ℕ) →
        free_step large whole_frame heap at line next ≡ step_over below caller to (free_step small frame heap at line next)
    free_over at line next = by_test (int_eq at (pos 0))
      where
        by_found : (found : Option Cell) →
            freed large whole_frame heap at line next found ≡ step_over below caller to (freed small frame heap at line next found)
        by_found None = refl
        by_found (Some cell) = sym (pushed next _ [] _)

        by_test : (b : Bool) →
            (if b then go_to large whole_frame heap next else freed large whole_frame heap at line next (cell_at heap at))
            ≡ step_over below caller to (if b then go_to small frame heap next else freed small frame heap at line next (cell_at heap at))
        by_test true = sym (pushed next _ [] heap)
        by_test false = by_found (cell_at heap at)

    called_over : (line : ℕ) (slot : Option ℕ) (args : List ℤ) (next : ℕ) (found : Option (ℕ × Proc)) →
        called large whole_frame heap line slot args next found
        ≡ step_over below caller to (called small frame heap line slot args next found)
    called_over line slot args next None = refl
    called_over line slot args next (Some (number, proc)) = sym (pushed next _ _ heap)

    cmd_over : (choice : Choice) (line : ℕ) (command : Cmd) →
        step_cmd program large whole_frame heap choice line command
        ≡ step_over below caller to (step_cmd program small frame heap choice line command)
    cmd_over choice line (cmd.Copy slot from next) = sym (pushed next _ [] heap)
    cmd_over choice line (cmd.Arith slot op left right next) = sym (pushed next _ [] heap)
    cmd_over choice line (cmd.Any slot ty next) = any_over slot ty next choice
    cmd_over choice line (cmd.Load slot base kind field next) =
        at_cell_over (slice_index_or frame.locals base (pos 0)) kind line
        (λ cell. go_with large whole_frame heap slot (slice_index_or cell.fields field (pos 0)) next)
        (λ cell. go_with small frame heap slot (slice_index_or cell.fields field (pos 0)) next)
        (λ cell. sym (pushed next (slice_set frame.locals slot (slice_index_or cell.fields field (pos 0))) [] heap))
    cmd_over choice line (cmd.Store base kind field from next) =
        let at = slice_index_or frame.locals base (pos 0) in
        at_cell_over at kind line
        (λ cell. go_to large whole_frame (with_field heap at field (operand_value frame.locals from)) next)
        (λ cell. go_to small frame (with_field heap at field (operand_value frame.locals from)) next)
        (λ cell. sym (pushed next frame.locals [] (with_field heap at field (operand_value frame.locals from))))
    cmd_over choice line (cmd.New slot kind next) = new_over slot kind next choice
    cmd_over choice line (cmd.Free base kind next) = free_over (slice_index_or frame.locals base (pos 0)) line next
    cmd_over choice line (cmd.Call slot callee args next) = called_over line slot _ next (proc_named_from 0 program.procs callee)
    cmd_over choice line (cmd.Branch op pointers left right on_true on_false) = sym (pushed _ _ [] heap)
    cmd_over choice line (cmd.Return value) = sym (back heap _)

    at_over : (choice : Choice) (proc : Proc) (node : Option Node) →
        step_at program large whole_frame heap choice proc node
        ≡ step_over below caller to (step_at program small frame heap choice proc node)
    at_over choice proc None = refl
    at_over choice proc (Some node) = cmd_over choice (proc.line + node.line) node.cmd

    in_over : (choice : Choice) (proc : Option Proc) →
        step_in program large whole_frame heap choice proc ≡ step_over below caller to (step_in program small frame heap choice proc)
    in_over choice None = refl
    in_over choice (Some proc) = at_over choice proc (slice_get proc.flow.nodes frame.node)

  -- ---- the first frame of the call, and a later one

  first_over : (first : Frame) (heap : List Cell) (choice : Choice) →
      step_in program (below ++ caller ∷ []) (record first { to = to }) heap choice (slice_get program.procs first.proc)
      ≡ step_over below caller to (step_in program [] first heap choice (slice_get program.procs first.proc))
  first_over first heap choice = in_over [] (below ++ caller ∷ []) first to pushed back heap choice (slice_get program.procs first.proc)
    where
      pushed : (node : ℕ) (locals : List ℤ) (others : List Frame) (heap : List Cell) →
          step_over below caller to
          (stepped.On (record {
            stack = record { proc = first.proc; node = node; locals = locals; to = first.to } ∷ others;
            heap = heap;
          }))
          ≡ stepped.On
          (record {
            stack = (below ++ caller ∷ []) ++ record { proc = first.proc; node = node; locals = locals; to = to } ∷ others;
            heap = heap;
          })
      pushed node locals others heap =
          rw (append_assoc below (caller ∷ []) (record { proc = first.proc; node = node; locals = locals; to = to } ∷ others)) refl

      back : (heap : List Cell) (value : ℤ) →
          stepped.On (record { stack = below ++ received to value caller ∷ []; heap = heap })
          ≡ returned (below ++ caller ∷ []) (record first { to = to }) heap value (top_of (below ++ caller ∷ []))
      back heap value =
          rw (top_of-on below caller [], below_top-on below caller [], append_assoc below [] (received to value caller ∷ [])) refl

  received_under : (slot : Option ℕ) (value : ℤ) (frame : Frame) →
      record (received slot value frame) { to = to } ≡ received slot value (record frame { to = to })
  received_under None value frame = refl
  received_under (Some slot) value frame = refl

  later_over : (first top : Frame) (middle : List Frame) (heap : List Cell) (choice : Choice) →
      step_in program (below ++ caller ∷ record first { to = to } ∷ middle) top heap choice (slice_get program.procs top.proc)
      ≡ step_over below caller to (step_in program (first ∷ middle) top heap choice (slice_get program.procs top.proc))
  later_over first top middle heap choice =
      in_over (first ∷ middle) (below ++ caller ∷ record first { to = to } ∷ middle) top top.to pushed (back middle) heap choice
      (slice_get program.procs top.proc)
    where
      pushed : (node : ℕ) (locals : List ℤ) (others : List Frame) (heap : List Cell) →
          stepped.On (record {
            stack = below ++ caller ∷ record first { to = to }
                ∷ (middle ++ record { proc = top.proc; node = node; locals = locals; to = top.to } ∷ others);
            heap = heap;
          })
          ≡ stepped.On
          (record {
            stack = (below ++ caller ∷ record first { to = to } ∷ middle)
                ++ record { proc = top.proc; node = node; locals = locals; to = top.to } ∷ others;
            heap = heap;
          })
      pushed node locals others heap =
          rw (append_assoc below (caller ∷ record first { to = to } ∷ middle)
          (record { proc = top.proc; node = node; locals = locals; to = top.to } ∷ others)) refl

      back : (middle : List Frame) (heap : List Cell) (value : ℤ) →
          step_over below caller to (returned (first ∷ middle) top heap value (top_of (first ∷ middle)))
          ≡ returned (below ++ caller ∷ record first { to = to } ∷ middle) top heap value
          (top_of (below ++ caller ∷ record first { to = to } ∷ middle))
      back [] heap value =
          rw (
            top_of-on below caller (record first { to = to } ∷ []),
            below_top-on below caller (record first { to = to } ∷ []),
            append_assoc below (caller ∷ []) (received top.to value (record first { to = to }) ∷ []),
            received_under top.to value first,
          ) refl
      back (second ∷ rest) heap value =
          let last = top_of-some second rest in
          rw (
            top_of-on below caller (record first { to = to } ∷ second ∷ rest),
            last.1,
            below_top-on below caller (record first { to = to } ∷ second ∷ rest),
            append_assoc below (caller ∷ record first { to = to } ∷ below_top (second ∷ rest)) (received top.to value last.0 ∷ []),
          ) refl

  stack_over : (stack : List Frame) (heap : List Cell) (choice : Choice) →
      step program (record { stack = over_caller below caller to stack; heap = heap }) choice
      ≡ step_over below caller to (step program (record { stack = stack; heap = heap }) choice)
  stack_over [] heap choice = refl
  stack_over (first ∷ []) heap choice =
      let named = top_of-on below caller (record first { to = to } ∷ []) in
      let waits = below_top-on below caller (record first { to = to } ∷ []) in
      ap (λ top. step_top program (below_top (below ++ caller ∷ record first { to = to } ∷ [])) heap choice top) named ∙
      ap (λ under. step_top program under heap choice (Some (record first { to = to }))) waits ∙
      (first_over first heap choice)
  stack_over (first ∷ second ∷ rest) heap choice =
      let last = top_of-some second rest in
      rw (
        top_of-on below caller (record first { to = to } ∷ second ∷ rest),
        below_top-on below caller
            (record first { to = to } ∷ second ∷ rest),
        last.1,
      )
      (later_over first last.0 (below_top (second ∷ rest)) heap choice)

pub step_over_caller : StepOverCaller
step_over_caller program below caller to config choice = stack_over program below caller to config.stack config.heap choice

-- ---- runs

pub run_over_caller : RunOverCaller
run_over_caller program below caller to config [] alone together = refl
run_over_caller program below caller to config (choice ∷ choices) alone together =
    rw (step_over_caller program below caller to config choice)
    (by_step (λ next. run_over_caller program below caller to next choices (alone + 1) (together + 1)) (step program config choice))
  where
    later : (small large : Outcome) → CarriesOver program below caller to choices small large →
        CarriesOver program below caller to (choice ∷ choices) small large
    later (outcome.Running config) large carries = carries
    later (outcome.Returned value heap) large carries =
        (choice ∷ carries.0, carries.1, carries.2, ap (λ rest. choice ∷ rest) carries.3, carries.4)
    later (outcome.Fault line cause) large carries = carries
    later (outcome.BadChoice at) large carries = carries

    by_step : ((next : Config) →
        CarriesOver program below caller to choices (run_from program next choices (alone + 1))
        (run_from program (config_over below caller to next) choices (together + 1))) →
        (to_small : Stepped) →
        CarriesOver program below caller to (choice ∷ choices)
        (run_after alone (λ next. run_from program next choices (alone + 1)) to_small)
        (run_after together (λ next. run_from program next choices (together + 1)) (step_over below caller to to_small))
    by_step goes_on (stepped.On next) =
        later (run_from program next choices (alone + 1)) (run_from program (config_over below caller to next) choices (together + 1))
        (goes_on next)
    by_step goes_on (stepped.Returned value heap) = (choice ∷ [], choices, together + 1, refl, refl)
    by_step goes_on (stepped.Fault line cause) = refl
    by_step goes_on stepped.BadChoice = (together, refl)
