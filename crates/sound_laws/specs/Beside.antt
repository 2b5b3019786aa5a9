-- Execution beside a frame: what a command does from locals and a heap of their own it does beside any other heap, which it leaves
-- as it is.
use Rattle.std.specs.Prelude.{◌≡◌, ℕ, ℤ, List, [], ◌∷◌, ◌++◌, map, All}
use Rattle.std.specs.declared.option.Option.{Option}
use Rattle.shape_data.specs.declared.answer.Callee.{Callee}
use Rattle.shape_data.specs.declared.machine.Cell.{Cell}
use Rattle.shape_data.specs.declared.machine.Choice.{Choice}
use Rattle.shape_data.specs.declared.machine.Config.{Config}
use Rattle.shape_data.specs.declared.machine.Frame.{Frame}
use Rattle.shape_data.specs.declared.machine.Outcome.{Outcome}
use Rattle.shape_data.specs.declared.machine.Outcome.TheVariants as outcome
use Rattle.shape_data.specs.declared.machine.Stepped.{Stepped}
use Rattle.shape_data.specs.declared.machine.Stepped.TheVariants as stepped
use Rattle.shape_data.specs.declared.program.Cmd.{Cmd}
use Rattle.shape_data.specs.declared.program.Cmd.TheVariants as cmd
use Rattle.shape_data.specs.declared.program.Node.{Node}
use Rattle.shape_data.specs.declared.program.Operand.{Operand}
use Rattle.shape_data.specs.declared.program.Proc.{Proc}
use Rattle.shape_data.specs.declared.program.Program.{Program}
use Rattle.shape_data.specs.declared.program.StructDef.{StructDef}
use Rattle.shape_data.specs.declared.symbolic.Post.{Post}
use Rattle.shape_data.specs.declared.symbolic.SymState.{SymState}
use Rattle.shape_data.specs.Heap.{IsSum}
use Rattle.shape_data.specs.Machine.{operand_value, run, run_from, start, step}
use Rattle.shape_data.specs.Meaning.{MeetsState}
use Rattle.sound_laws.specs.Commands.{alone, received_locals, NodeAssertion, ResultAssertion}
use Rattle.sound_laws.specs.Leading.{NextIsMet, PostIsMet, RowIsSound}
use Rattle.sound_laws.specs.Procedures.{Finds, IsNodeOf, IsValidCallee}
use Rattle.sound_laws.specs.Stacks.{config_over, step_over, CarriesOver}

-- a step lands beside a frame: it goes on at a node where `At` holds of the locals and of what is beside the very same frame, or
-- returns a value and such a heap of which `Ends` holds; it does not fault
abbrev pub LandsBeside : List StructDef → NodeAssertion → ResultAssertion → ℕ → List Cell → Stepped → Type 0
LandsBeside structs At Ends number frame (stepped.On config) =
    (own : List Cell) × (node : ℕ) × (locals : List ℤ) × (config.stack ≡ alone number node locals ∷ []) ×
    IsSum structs config.heap own frame × At node locals own
LandsBeside structs At Ends number frame (stepped.Returned value heap) = (own : List Cell) × IsSum structs heap own frame × Ends value own
LandsBeside structs At Ends number frame (stepped.Fault line cause) = ⊥
LandsBeside structs At Ends number frame stepped.BadChoice = Unit {0}

-- a run of a callee returns beside a frame: it does not fault, and where it returns, `At` holds of the caller's locals with the
-- result, and of what is beside the very same frame
abbrev pub ReturnsBeside : List StructDef → (List ℤ → List Cell → Type 0) → List ℤ → Option ℕ → List Cell → Outcome → Type 0
ReturnsBeside structs At locals to frame (outcome.Running config) = Unit {0}
ReturnsBeside structs At locals to frame (outcome.Returned value heap) =
    (own : List Cell) × IsSum structs heap own frame × At (received_locals to value locals) own
ReturnsBeside structs At locals to frame (outcome.Fault line cause) = ⊥
ReturnsBeside structs At locals to frame (outcome.BadChoice index) = Unit {0}

-- the procedure of this number at a node, with nobody waiting for it
abbrev pub config_at : ℕ → ℕ → List ℤ → List Cell → Config
config_at number at locals heap = record { stack = alone number at locals ∷ []; heap = heap }

-- a callee at its start, with the values of the arguments
abbrev pub callee_at_start : Proc → ℕ → List ℤ → List Operand → List Cell → Config
callee_at_start proc number locals args heap = start proc.flow number (map (operand_value locals) args) heap

-- what the command of a node does beside a frame: where it is a call, the callee is there and each of its runs returns beside the
-- frame; each step of another command lands beside it
abbrev pub DoesBeside : Program → NodeAssertion → ResultAssertion → ℕ → ℕ → List ℤ → List Cell → List Cell → Cmd → Type 0
DoesBeside program At Ends number at locals frame whole (cmd.Call to name args next) =
    (other : ℕ) × (proc : Proc) × Finds program name other proc ×
    ((choices : List Choice) →
    ReturnsBeside program.structs (At next) locals to frame (run program (callee_at_start proc other locals args whole) choices))
DoesBeside program At Ends number at locals frame whole command =
    (choice : Choice) → LandsBeside program.structs At Ends number frame (step program (config_at number at locals whole) choice)

-- the same where frames wait, the last of which is the caller of the procedure: each step is one that lands beside the frame, on top of
-- them; and each run of a callee is one that returns beside the frame, on top of them and of the procedure's own frame
abbrev pub DoesOnTop : Program → NodeAssertion → ResultAssertion → ℕ → ℕ → List ℤ → List Cell → List Cell → List Frame → Frame → Option ℕ →
    Cmd → Type 0
DoesOnTop program At Ends number at locals frame whole below caller back (cmd.Call to name args next) =
    (other : ℕ) × (proc : Proc) × Finds program name other proc ×
    ((choices : List Choice) (index : ℕ) → (result : Outcome) × ReturnsBeside program.structs (At next) locals to frame result ×
    (let begun : Config = callee_at_start proc other locals args whole in
    let waiting : List Frame = below ++ caller ∷ [] in
    let own : Frame = record { proc = number; node = next; locals = locals; to = back } in
    CarriesOver program waiting own to choices result (run_from program (config_over waiting own to begun) choices index)))
DoesOnTop program At Ends number at locals frame whole below caller back command =
    (choice : Choice) → (landed : Stepped) × LandsBeside program.structs At Ends number frame landed ×
    (step program (config_over below caller back (config_at number at locals whole)) choice ≡ step_over below caller back landed)

-- LAWS

-- where the specs that calls use are valid, a sound row is sound beside every frame: from what meets the state, the command of the node
-- leads to what meets a successor at its node, or an exit, beside the very same frame
abbrev pub DoesBesideFrame : Type 0
DoesBesideFrame =
    (program : Program) (callees : List Callee) → All (IsValidCallee program) callees →
    (number at : ℕ) (node : Node) → IsNodeOf program number at node →
    (state : SymState) (nexts : List (ℕ × SymState)) (exits : List Post) → RowIsSound program callees state node.cmd nexts exits →
    (s : ℕ → ℤ) (locals : List ℤ) (own : List Cell) → MeetsState program.structs s locals own state →
    (frame whole : List Cell) → IsSum program.structs whole own frame →
    DoesBeside program (NextIsMet program.structs s nexts) (PostIsMet program.structs s exits) number at locals frame whole node.cmd

-- and so it is on top of any frames that wait
abbrev pub DoesOnAnyStack : Type 0
DoesOnAnyStack =
    (program : Program) (callees : List Callee) → All (IsValidCallee program) callees →
    (number at : ℕ) (node : Node) → IsNodeOf program number at node →
    (state : SymState) (nexts : List (ℕ × SymState)) (exits : List Post) → RowIsSound program callees state node.cmd nexts exits →
    (s : ℕ → ℤ) (locals : List ℤ) (own : List Cell) → MeetsState program.structs s locals own state →
    (frame whole : List Cell) → IsSum program.structs whole own frame → (below : List Frame) (caller : Frame) (back : Option ℕ) →
    DoesOnTop program (NextIsMet program.structs s nexts)
    (PostIsMet program.structs s exits) number at locals frame whole below caller back node.cmd
