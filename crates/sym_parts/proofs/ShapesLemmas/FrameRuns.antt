-- A run beside a frame, by its steps.
use Rattle.std.specs.Prelude.{◌≡◌, ◌⊎◌, ℕ, ◌+◌, ℤ, List, [], ◌∷◌}
use Rattle.std.proofs.Common.{refl, inl, inr}
use Rattle.shape_data.specs.declared.machine.Cell.{Cell}
use Rattle.shape_data.specs.declared.machine.Choice.{Choice}
use Rattle.shape_data.specs.declared.machine.Config.{Config}
use Rattle.shape_data.specs.declared.machine.Outcome.{Outcome}
use Rattle.shape_data.specs.declared.machine.Outcome.TheVariants as outcome
use Rattle.shape_data.specs.declared.machine.Stepped.{Stepped}
use Rattle.shape_data.specs.declared.machine.Stepped.TheVariants as stepped
use Rattle.shape_data.specs.declared.program.Program.{Program}
use Rattle.shape_data.specs.declared.program.StructDef.{StructDef}
use Rattle.shape_data.specs.declared.symbolic.Post.{Post}
use Rattle.shape_data.specs.Heap.{IsSum}
use Rattle.shape_data.specs.Machine.{step, run_after, run_from, run, start}
use Rattle.shape_data.specs.Valid.{Satisfies, values_from}
use Rattle.sym_parts.specs.Shapes.Frame.{AreOutside, Carries, RunBesideFrame, IsNoFault, NoFaultBesideFrame, SatisfiesAlone, FrameRule}
use Rattle.sym_parts.proofs.ShapesLemmas.FrameSteps.{CarriesStep, CarriesOrRefuses, IsInside, step_carries, not_inside}

-- one of the choices is a new address at which the heap has a cell
abbrev pub IsOneInside : List Cell → List Choice → Type 0
IsOneInside heap [] = ⊥
IsOneInside heap (first ∷ others) = IsInside heap first ⊎ IsOneInside heap others

-- the second outcome carries the frame along, or is a bad choice for a new cell at an address of the frame
abbrev pub RunsOrRefuses : List StructDef → List Cell → List Choice → Outcome → Outcome → Type 0
RunsOrRefuses structs frame choices small large =
    Carries structs frame small large ⊎ (IsOneInside frame choices × (bad : ℕ) × (large ≡ outcome.BadChoice bad))

-- a run beside any frame, under any choices
pub run_carries : (program : Program) (config : Config) (frame whole : List Cell) (choices : List Choice) (index : ℕ) →
    IsSum program.structs whole config.heap frame →
    RunsOrRefuses program.structs frame choices (run_from program config choices index)
    (run_from program (record { stack = config.stack; heap = whole }) choices index)
run_carries program config frame whole [] index sum = inl (whole, refl, sum)
run_carries program config frame whole (choice ∷ choices) index sum =
    by_step (λ next heap. run_carries program next frame heap choices (index + 1)) (step program config choice)
    (step program (record { stack = config.stack; heap = whole }) choice) (step_carries program config frame whole choice sum)
  where
    later_inside : (small large : Outcome) → RunsOrRefuses program.structs frame choices small large →
        RunsOrRefuses program.structs frame (choice ∷ choices) small large
    later_inside small large runs = elim runs [ inl carries ↦ inl carries | inr refused ↦ inr (inr refused.0, refused.1, refused.2) ]

    go_on : Config → Outcome
    go_on next = run_from program next choices (index + 1)

    by_carried : ((next : Config) (heap : List Cell) → IsSum program.structs heap next.heap frame →
        RunsOrRefuses program.structs frame choices (go_on next) (go_on (record { stack = next.stack; heap = heap }))) →
        (small large : Stepped) → CarriesStep program.structs frame small large →
        RunsOrRefuses program.structs frame (choice ∷ choices) (run_after index go_on small) (run_after index go_on large)
    by_carried later (stepped.On next) large carries =
        rw carries.1 (later_inside (go_on next) (go_on (record { stack = next.stack; heap = carries.0 })) (later next carries.0 carries.2))
    by_carried later (stepped.Returned value own) large carries = rw carries.1 (inl (carries.0, refl, carries.2))
    by_carried later (stepped.Fault line cause) large carries = inl tt
    by_carried later stepped.BadChoice large carries = rw carries (inl refl)

    by_step : ((next : Config) (heap : List Cell) → IsSum program.structs heap next.heap frame →
        RunsOrRefuses program.structs frame choices (go_on next) (go_on (record { stack = next.stack; heap = heap }))) →
        (small large : Stepped) → CarriesOrRefuses program.structs frame choice small large →
        RunsOrRefuses program.structs frame (choice ∷ choices) (run_after index go_on small) (run_after index go_on large)
    by_step later small large (inl carries) = by_carried later small large carries
    by_step later small large (inr refused) = rw refused.1 (inr (inl refused.0, index, refl))

pub none_inside : (heap : List Cell) (choices : List Choice) → AreOutside heap choices → IsOneInside heap choices → ⊥
none_inside heap [] outside inside = inside
none_inside heap (choice ∷ choices) outside (inl here) = not_inside heap choice outside.0 here
none_inside heap (choice ∷ choices) outside (inr later) = none_inside heap choices outside.1 later

pub run_beside_frame : RunBesideFrame
run_beside_frame program config frame whole choices sum outside =
    elim (run_carries program config frame whole choices 0 sum) [
      | inl carries ↦ carries
      | inr refused ↦ absurd
          (none_inside frame choices outside refused.0)
    ]

-- ---- what follows for a run that does not fault

no_fault_carried : (structs : List StructDef) (frame : List Cell) (small large : Outcome) → Carries structs frame small large →
    IsNoFault small → IsNoFault large
no_fault_carried structs frame (outcome.Running config) large carries fine = rw carries.1 tt
no_fault_carried structs frame (outcome.Returned value own) large carries fine = rw carries.1 tt
no_fault_carried structs frame (outcome.Fault line cause) large carries fine = absurd fine
no_fault_carried structs frame (outcome.BadChoice index) large carries fine = rw carries tt

pub no_fault_beside_frame : NoFaultBesideFrame
no_fault_beside_frame program config frame whole choices sum fine =
    by_run (run program config choices) (run program (record { stack = config.stack; heap = whole }) choices)
    (run_carries program config frame whole choices 0 sum) fine
  where
    by_run : (small large : Outcome) → RunsOrRefuses program.structs frame choices small large → IsNoFault small → IsNoFault large
    by_run small large (inl carries) fine = no_fault_carried program.structs frame small large carries fine
    by_run small large (inr refused) fine = rw refused.2 tt

safe_carried : (structs : List StructDef) (s : ℕ → ℤ) (frame : List Cell) (posts : List Post) (small large : Outcome) →
    Carries structs frame small large →
    SatisfiesAlone structs s posts small → Satisfies structs s frame posts large
safe_carried structs s frame posts (outcome.Running config) large carries safe = rw carries.1 tt
safe_carried structs s frame posts (outcome.Returned value own) large carries safe = rw carries.1 (own, carries.2, safe)
safe_carried structs s frame posts (outcome.Fault line cause) large carries safe = absurd safe
safe_carried structs s frame posts (outcome.BadChoice index) large carries safe = rw carries tt

-- a run that is safe alone is safe beside any frame
pub safe_beside_frame : (program : Program) (config : Config) (frame whole : List Cell) (choices : List Choice) (s : ℕ → ℤ)
    (posts : List Post) → IsSum program.structs whole config.heap frame →
    SatisfiesAlone program.structs s posts (run program config choices) →
    Satisfies program.structs s frame posts (run program (record { stack = config.stack; heap = whole }) choices)
safe_beside_frame program config frame whole choices s posts sum safe =
    by_run (run program config choices) (run program (record { stack = config.stack; heap = whole }) choices)
    (run_carries program config frame whole choices 0 sum) safe
  where
    by_run : (small large : Outcome) → RunsOrRefuses program.structs frame choices small large →
        SatisfiesAlone program.structs s posts small → Satisfies program.structs s frame posts large
    by_run small large (inl carries) safe = safe_carried program.structs s frame posts small large carries safe
    by_run small large (inr refused) safe = rw refused.2 tt

pub frame_rule : FrameRule
frame_rule program number proc spec alone s own frame whole meets sum choices =
    safe_beside_frame program (start proc.flow number (values_from s 0 proc.flow.params) own) frame whole choices s spec.posts sum
    (alone s own meets sum.left_is_heap choices)
