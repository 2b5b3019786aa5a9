-- The concrete machine is never stuck on a well-formed program.
use Rattle.std.specs.Prelude.{◌≡◌, ℕ, ◌<◌, ℤ, List, length, slice_get}
use Rattle.std.specs.Option.{IsSomeAnd}
use Rattle.std.specs.declared.option.Option.TheVariants.{Some}
use Rattle.shape_data.specs.declared.machine.Cell.{Cell}
use Rattle.shape_data.specs.declared.machine.Choice.{Choice}
use Rattle.shape_data.specs.declared.machine.Config.{Config}
use Rattle.shape_data.specs.declared.machine.Outcome.{Outcome}
use Rattle.shape_data.specs.declared.machine.Outcome.TheVariants as outcome
use Rattle.shape_data.specs.declared.machine.Stepped.{Stepped}
use Rattle.shape_data.specs.declared.machine.Stepped.TheVariants as stepped
use Rattle.shape_data.specs.declared.program.Cmd.{Cmd}
use Rattle.shape_data.specs.declared.program.Cmd.TheVariants as cmd
use Rattle.shape_data.specs.declared.program.Proc.{Proc}
use Rattle.shape_data.specs.declared.program.Program.{Program}
use Rattle.shape_data.specs.Heap.{IsHeap}
use Rattle.shape_data.specs.Machine.{top_of, step, run, start}
use Rattle.shape_data.specs.WellFormed.{IsProgram, IsConfig}

-- the command asks for a choice
abbrev pub TakesChoice : Cmd → Type 0
TakesChoice (cmd.Any to ty next) = Unit {0}
TakesChoice (cmd.New to kind next) = Unit {0}
TakesChoice _ = ⊥

-- a choice may be bad: the node that runs is an `Any` or a `New`
abbrev pub MayBeBad : Program → Config → Type 0
MayBeBad program config =
    IsSomeAnd (top_of config.stack)
    (λ frame. IsSomeAnd (slice_get program.procs frame.proc)
    (λ proc. IsSomeAnd (slice_get proc.flow.nodes frame.node) (λ node. TakesChoice node.cmd)))

-- a well-formed configuration, a return with a heap over the program's structures, a fault at a 32-bit line, or a bad choice where there
-- may be one
abbrev pub IsStepOf : Program → Config → Stepped → Type 0
IsStepOf program config (stepped.On next) = IsConfig program next
IsStepOf program config (stepped.Returned value heap) = IsHeap program.structs heap
IsStepOf program config (stepped.Fault line cause) = line < 4294967296
IsStepOf program config stepped.BadChoice = MayBeBad program config

-- a step of a well-formed configuration is never stuck
abbrev pub StepIsNeverStuck : Type 0
StepIsNeverStuck = (program : Program) (config : Config) (choice : Choice) → IsProgram program → IsConfig program config →
    IsStepOf program config (step program config choice)

-- the same of the last step of a run over so many choices
abbrev pub IsRunOf : Program → ℕ → Outcome → Type 0
IsRunOf program choices (outcome.Running config) = IsConfig program config
IsRunOf program choices (outcome.Returned value heap) = IsHeap program.structs heap
IsRunOf program choices (outcome.Fault line cause) = line < 4294967296
IsRunOf program choices (outcome.BadChoice index) = index < choices

-- a run from a well-formed configuration is never stuck
abbrev pub RunIsNeverStuck : Type 0
RunIsNeverStuck = (program : Program) (config : Config) (choices : List Choice) → IsProgram program → IsConfig program config →
    IsRunOf program (length choices) (run program config choices)

-- a procedure of the program starts in a well-formed configuration, given one argument for each parameter and a heap
abbrev pub StartIsConfig : Type 0
StartIsConfig =
    (program : Program) (number : ℕ) (proc : Proc) (args : List ℤ) (heap : List Cell) → IsProgram program →
    slice_get program.procs number ≡ Some proc →
    length args ≡ length proc.flow.params → IsHeap program.structs heap → IsConfig program (start proc.flow number args heap)
