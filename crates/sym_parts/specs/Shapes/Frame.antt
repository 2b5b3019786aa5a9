-- The frame law of the concrete machine: what a run does in a heap it does beside any other heap.
use Rattle.std.specs.Prelude.{◌≡◌, ℕ, ℤ, List, [], ◌∷◌}
use Rattle.std.specs.declared.option.Option.TheVariants.{None}
use Rattle.shape_data.specs.declared.machine.Cell.{Cell}
use Rattle.shape_data.specs.declared.machine.Choice.{Choice}
use Rattle.shape_data.specs.declared.machine.Choice.TheVariants as choice
use Rattle.shape_data.specs.declared.machine.Config.{Config}
use Rattle.shape_data.specs.declared.machine.Outcome.{Outcome}
use Rattle.shape_data.specs.declared.machine.Outcome.TheVariants as outcome
use Rattle.shape_data.specs.declared.program.Proc.{Proc}
use Rattle.shape_data.specs.declared.program.Program.{Program}
use Rattle.shape_data.specs.declared.program.StructDef.{StructDef}
use Rattle.shape_data.specs.declared.symbolic.Post.{Post}
use Rattle.shape_data.specs.declared.symbolic.Spec.{Spec}
use Rattle.shape_data.specs.Heap.{cell_at, IsHeap, IsSum}
use Rattle.shape_data.specs.Machine.{run, start}
use Rattle.shape_data.specs.Meaning.{Meets, MeetsOne}
use Rattle.shape_data.specs.Valid.{ValidFor, values_from}

-- the choice is no new address at which the heap has a cell
abbrev pub IsOutside : List Cell → Choice → Type 0
IsOutside heap (choice.Cell at fields) = cell_at heap at ≡ None
IsOutside heap _ = Unit {0}

-- no choice is a new address at which the heap has a cell
abbrev pub AreOutside : List Cell → List Choice → Type 0
AreOutside heap [] = Unit {0}
AreOutside heap (first ∷ others) = IsOutside heap first × AreOutside heap others

-- the second outcome is the first one with the frame beside its heap; of a fault nothing is said
abbrev pub Carries : List StructDef → List Cell → Outcome → Outcome → Type 0
Carries structs frame (outcome.Running small) large =
    (heap : List Cell) × (large ≡ outcome.Running (record { stack = small.stack; heap = heap })) × IsSum structs heap small.heap frame
Carries structs frame (outcome.Returned value own) large =
    (heap : List Cell) × (large ≡ outcome.Returned value heap) × IsSum structs heap own frame
Carries structs frame (outcome.Fault line cause) large = Unit {0}
Carries structs frame (outcome.BadChoice index) large = large ≡ outcome.BadChoice index

-- what a run does in a heap it does beside any frame, which stays as it is, under choices that put no new cell into the frame
abbrev pub RunBesideFrame : Type 0
RunBesideFrame =
    (program : Program) (config : Config) (frame whole : List Cell) (choices : List Choice) →
    IsSum program.structs whole config.heap frame → AreOutside frame choices →
    Carries program.structs frame (run program config choices) (run program (record { stack = config.stack; heap = whole }) choices)

-- the outcome is no fault
abbrev pub IsNoFault : Outcome → Type 0
IsNoFault (outcome.Fault line cause) = ⊥
IsNoFault _ = Unit {0}

-- a run that does not fault in a heap does not fault beside any frame, under any choices
abbrev pub NoFaultBesideFrame : Type 0
NoFaultBesideFrame =
    (program : Program) (config : Config) (frame whole : List Cell) (choices : List Choice) →
    IsSum program.structs whole config.heap frame →
    IsNoFault (run program config choices) → IsNoFault (run program (record { stack = config.stack; heap = whole }) choices)

-- the run has not ended in a fault; and where it returned, its heap meets one of the posts
abbrev pub SatisfiesAlone : List StructDef → (ℕ → ℤ) → List Post → Outcome → Type 0
SatisfiesAlone structs s posts (outcome.Running config) = Unit {0}
SatisfiesAlone structs s posts (outcome.Returned value heap) = MeetsOne structs s value heap posts
SatisfiesAlone structs s posts (outcome.Fault line cause) = ⊥
SatisfiesAlone structs s posts (outcome.BadChoice index) = Unit {0}

-- from each heap that meets the precondition, and nothing beside it, the run of the procedure is safe under any choices
abbrev pub ValidAlone : Program → ℕ → Proc → Spec → Type 0
ValidAlone program number proc spec =
    (s : ℕ → ℤ) (own : List Cell) → Meets program.structs s own spec.pre → IsHeap program.structs own → (choices : List Choice) →
    SatisfiesAlone program.structs s spec.posts (run program (start proc.flow number (values_from s 0 proc.flow.params) own) choices)

-- the frame rule: a spec that is right with no frame is right beside every frame
abbrev pub FrameRule : Type 0
FrameRule = (program : Program) (number : ℕ) (proc : Proc) (spec : Spec) → ValidAlone program number proc spec →
    ValidFor program number proc spec
