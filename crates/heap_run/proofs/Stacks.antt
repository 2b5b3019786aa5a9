-- The frame that runs is the last one of its stack; what a well-formed configuration of a well-formed program says of it.
use Rattle.std.proofs.Common.{◌≡◌, ℕ, ◌+◌, ◌<◌, List, [], ◌∷◌, ◌++◌, length, get_or, slice_get, IsSomeAnd, Option, Some, None, refl, ap}
use Rattle.std.proofs.lemmas.Option.{slice_get_read, slice_get_within}
use Rattle.shape_data.specs.declared.machine.Choice.{Choice}
use Rattle.shape_data.specs.declared.machine.Config.{Config}
use Rattle.shape_data.specs.declared.machine.Frame.{Frame}
use Rattle.shape_data.specs.declared.program.Node.{Node}
use Rattle.shape_data.specs.declared.program.Proc.{Proc}
use Rattle.shape_data.specs.declared.program.Program.{Program}
use Rattle.shape_data.specs.Machine.{top_of, below_top, step, step_cmd}
use Rattle.shape_data.specs.WellFormed.{HasLines, IsCmd, IsConfig, IsFlow, IsFrame, IsNode, IsProgram, ReturnsInto}
use Rattle.sym_parts.proofs.ShapesLemmas.StepsStacks.{All-at, AreFrames-split, last_of}

pub top_of-push : (frames : List Frame) (frame : Frame) → top_of (frames ++ frame ∷ []) ≡ Some frame
top_of-push [] frame = refl
top_of-push (first ∷ []) frame = refl
top_of-push (first ∷ next ∷ frames) frame = top_of-push (next ∷ frames) frame

pub below_top-push : (frames : List Frame) (frame : Frame) → below_top (frames ++ frame ∷ []) ≡ frames
below_top-push [] frame = refl
below_top-push (first ∷ []) frame = refl
below_top-push (first ∷ next ∷ frames) frame = ap (λ rest. first ∷ rest) (below_top-push (next ∷ frames) frame)

pub ruleset stack_ends = (top_of-push, below_top-push)

last_of_some : (under : Option Frame) (frame : Frame) (frames : List Frame) → last_of under (frame ∷ frames) ≡ top_of (frame ∷ frames)
last_of_some under frame [] = refl
last_of_some under frame (next ∷ frames) = last_of_some (Some frame) next frames

last_is : (frames : List Frame) → last_of None frames ≡ top_of frames
last_is [] = refl
last_is (frame ∷ frames) = last_of_some None frame frames

-- the frame that runs is well formed, and returns into the one below it
pub top_fits : (program : Program) (config : Config) (below : List Frame) (frame : Frame) → IsConfig program config →
    config.stack ≡ below ++ frame ∷ [] → IsFrame program frame × ReturnsInto (top_of below) frame
top_fits program config below frame is_config stack =
    let parts = AreFrames-split program None below (frame ∷ []) (rw stack at is_config.frames) in
    (parts.1.0, rw (last_is below) at parts.1.1)

-- its procedure is there
pub proc_within : (program : Program) (frame : Frame) → IsFrame program frame → frame.proc < length program.procs
proc_within program frame fits = by_proc (slice_get program.procs frame.proc) refl fits
  where
    by_proc : (proc : Option Proc) → slice_get program.procs frame.proc ≡ proc →
        IsSomeAnd proc (λ (proc : Proc). (frame.node < length proc.flow.nodes) × (length frame.locals ≡ length proc.flow.slots)) →
        frame.proc < length program.procs
    by_proc None is fits = absurd fits
    by_proc (Some proc) is fits = slice_get_within program.procs frame.proc proc is

-- and its node, with one local for each slot
pub proc_is : (program : Program) (frame : Frame) (procs : List Proc) (proc : Proc) → IsFrame program frame → procs ≡ program.procs →
    proc ≡ get_or procs frame.proc proc →
    (slice_get program.procs frame.proc ≡ Some proc) × (frame.node < length proc.flow.nodes)
    × (length frame.locals ≡ length proc.flow.slots)
proc_is program frame procs proc fits same read =
    let rest = rw is at fits in
    (is, rest.0, rest.1)
  where
    is : slice_get program.procs frame.proc ≡ Some proc
    is = slice_get_read program.procs (length program.procs) frame.proc proc refl (proc_within program frame fits) (rw same at read)

pub node_is : (proc : Proc) (frame : Frame) (nodes : List Node) (node : Node) → frame.node < length proc.flow.nodes →
    nodes ≡ proc.flow.nodes → node ≡ get_or nodes frame.node node → slice_get proc.flow.nodes frame.node ≡ Some node
node_is proc frame nodes node within same read =
    slice_get_read proc.flow.nodes (length proc.flow.nodes) frame.node node refl within (rw same at read)

-- a node's command is well formed, and its line in the file is a 32-bit number
pub node_fits : (program : Program) (number place : ℕ) (proc : Proc) (node : Node) → IsProgram program →
    slice_get program.procs number ≡ Some proc → slice_get proc.flow.nodes place ≡ Some node →
    IsCmd program.structs (length proc.flow.slots) (length proc.flow.nodes) node.cmd × (proc.line + node.line < 4294967296)
node_fits program number place proc node is_program is_proc is_node =
    let is_flow : IsFlow program.structs proc.flow =
    All-at (λ one. IsFlow program.structs one.flow) program.procs number proc is_program.flows is_proc in
    let fits : IsNode program.structs (length proc.flow.slots) (length proc.flow.nodes) node =
    All-at (IsNode program.structs (length proc.flow.slots) (length proc.flow.nodes)) proc.flow.nodes place node is_flow.nodes is_node in (
      fits.command,
      All-at (λ node. proc.line + node.line < 4294967296) proc.flow.nodes place node
          (All-at HasLines program.procs number proc is_program.lines is_proc) is_node,
    )

-- the step of a configuration, where the frame that runs, its procedure and its node are known
pub step_is : (program : Program) (config : Config) (choice : Choice) (below : List Frame) (frame : Frame) (proc : Proc) (node : Node) →
    config.stack ≡ below ++ frame ∷ [] →
    slice_get program.procs frame.proc ≡ Some proc → slice_get proc.flow.nodes frame.node ≡ Some node →
    step program config choice ≡ step_cmd program below frame config.heap choice (proc.line + node.line) node.cmd
step_is program config choice below frame proc node stack is_proc is_node =
    rw (stack, top_of-push below frame, below_top-push below frame, is_proc, is_node) refl
