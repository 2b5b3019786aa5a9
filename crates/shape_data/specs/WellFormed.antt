-- Well-formedness: which programs, configurations, heaps, specs, keys and answers the analyser works on.
use Rattle.std.specs.Prelude.{◌≡◌, ◌≢◌, ℕ, ◌+◌, ◌<◌, ◌≤◌, nat_lt, Bool, ◌&&◌, ◌||◌, not, List, [], ◌∷◌, length, All, IsTrue, IsSome}
use Rattle.std.specs.Prelude.{slice_get, slice_index_or}
use Rattle.std.specs.List.{AllAdjacentBelow}
use Rattle.std.specs.Option.{IsSomeAnd, IfSome}
use Rattle.std.specs.Ordering.{nat_cmp}
use Rattle.std.specs.Cmp.Lexicographic.{slice_cmp}
use Rattle.std.specs.declared.cmp.Ordering.TheVariants.{Less}
use Rattle.std.specs.declared.option.Option.{Option}
use Rattle.std.specs.declared.option.Option.TheVariants.{None, Some}
use Rattle.shape_data.specs.declared.answer.Answer.{Answer}
use Rattle.shape_data.specs.declared.answer.Callee.{Callee}
use Rattle.shape_data.specs.declared.answer.Key.{Key}
use Rattle.shape_data.specs.declared.answer.ProcSummary.{ProcSummary}
use Rattle.shape_data.specs.declared.machine.Config.{Config}
use Rattle.shape_data.specs.declared.machine.Frame.{Frame}
use Rattle.shape_data.specs.declared.program.Cmd.{Cmd}
use Rattle.shape_data.specs.declared.program.Cmd.TheVariants as cmd
use Rattle.shape_data.specs.declared.program.Field.{Field}
use Rattle.shape_data.specs.declared.program.Flow.{Flow}
use Rattle.shape_data.specs.declared.program.HeadMark.{HeadMark}
use Rattle.shape_data.specs.declared.program.Node.{Node}
use Rattle.shape_data.specs.declared.program.Operand.{Operand}
use Rattle.shape_data.specs.declared.program.Operand.TheVariants.{Slot, Num}
use Rattle.shape_data.specs.declared.program.Proc.{Proc}
use Rattle.shape_data.specs.declared.program.Program.{Program}
use Rattle.shape_data.specs.declared.program.StructDef.{StructDef}
use Rattle.shape_data.specs.declared.program.Ty.{Ty}
use Rattle.shape_data.specs.declared.program.Ty.TheVariants.{Int, Ptr, Void}
use Rattle.shape_data.specs.declared.symbolic.Atom.{Atom}
use Rattle.shape_data.specs.declared.symbolic.Atom.TheVariants.{Points, Seg, Junk}
use Rattle.shape_data.specs.declared.symbolic.Cert.{Cert}
use Rattle.shape_data.specs.declared.symbolic.Exp.{Exp}
use Rattle.shape_data.specs.declared.symbolic.Exp.TheVariants.{Var, Const}
use Rattle.shape_data.specs.declared.symbolic.Fact.{Fact}
use Rattle.shape_data.specs.declared.symbolic.Fact.TheVariants.{Eq, Ne}
use Rattle.shape_data.specs.declared.symbolic.Post.{Post}
use Rattle.shape_data.specs.declared.symbolic.Spec.{Spec}
use Rattle.shape_data.specs.declared.symbolic.SymHeap.{SymHeap}
use Rattle.shape_data.specs.declared.symbolic.SymState.{SymState}
use Rattle.shape_data.specs.Heap.{struct_named, IsHeap}
use Rattle.shape_data.specs.Names.{IsCName, HaveDifferentNames}

-- a 32-bit number can count the list
abbrev pub IsCountable : {A : Type 0} → List A → Type 0
IsCountable things = length things < 4294967296

-- PROGRAMS

-- a pointer type names a structure by a C name; whether that is listed is not asked
abbrev pub IsTy : Ty → Type 0
IsTy Int = Unit {0}
IsTy (Ptr name) = IsCName name
IsTy Void = Unit {0}

-- a structure has a C name, and few fields, whose C names differ
pub record IsStruct (def : StructDef) : Type 0 where
  pub name : IsCName def.name
  pub fields : length def.fields ≤ 32768
  pub field_names : All (λ (field : Field). IsCName field.name) def.fields
  pub types : All (λ (field : Field). IsTy field.ty) def.fields
  pub different : HaveDifferentNames (λ (field : Field). field.name) def.fields

-- structures have different names
pub record AreStructs (structs : List StructDef) : Type 0 where
  pub countable : IsCountable structs
  pub each : All IsStruct structs
  pub different : HaveDifferentNames (λ (def : StructDef). def.name) structs

-- parameters have C names, which differ
pub record AreParams (params : List (List ℕ)) : Type 0 where
  pub few : length params ≤ 32768
  pub names : All IsCName params
  pub different : HaveDifferentNames (λ name. name) params

-- the slot of an operand is there
abbrev pub IsOperand : ℕ → Operand → Type 0
IsOperand slots (Slot slot) = slot < slots
IsOperand slots (Num n) = Unit {0}

-- the structure is listed
abbrev pub IsKind : List StructDef → List ℕ → Type 0
IsKind structs kind = IsSome (struct_named structs kind)

-- the structure is listed and has the field
abbrev pub IsField : List StructDef → List ℕ → ℕ → Type 0
IsField structs kind field = IsSomeAnd (struct_named structs kind) (λ def. field < length def.fields)

-- the slots, nodes, structures and fields that a command names are there, and what it calls has a C name
abbrev pub IsCmd : List StructDef → ℕ → ℕ → Cmd → Type 0
IsCmd structs slots nodes (cmd.Copy to from next) = (to < slots) × IsOperand slots from × (next < nodes)
IsCmd structs slots nodes (cmd.Arith to op left right next) = (to < slots) × IsOperand slots left × IsOperand slots right × (next < nodes)
IsCmd structs slots nodes (cmd.Any to ty next) = (to < slots) × (next < nodes) × IsTy ty
IsCmd structs slots nodes (cmd.Load to base kind field next) = (to < slots) × (base < slots) × IsField structs kind field × (next < nodes)
IsCmd structs slots nodes (cmd.Store base kind field from next) =
    (base < slots) × IsField structs kind field × IsOperand slots from × (next < nodes)
IsCmd structs slots nodes (cmd.New to kind next) = (to < slots) × IsKind structs kind × (next < nodes)
IsCmd structs slots nodes (cmd.Free base kind next) = (base < slots) × IsKind structs kind × (next < nodes)
IsCmd structs slots nodes (cmd.Call to callee args next) =
    IfSome to (λ slot. slot < slots) × IsCountable args × All (IsOperand slots) args × (next < nodes) × IsCName callee
IsCmd structs slots nodes (cmd.Branch op pointers left right on_true on_false) =
    IsOperand slots left × IsOperand slots right × (on_true < nodes) × (on_false < nodes)
IsCmd structs slots nodes (cmd.Return value) = IsOperand slots value

-- the slots that a loop head's mark names are there
pub record IsMark (slots : ℕ) (mark : HeadMark) : Type 0 where
  pub ints_countable : IsCountable mark.ints
  pub ints : All (λ slot. slot < slots) mark.ints
  pub dead_countable : IsCountable mark.dead
  pub dead : All (λ slot. slot < slots) mark.dead

-- a node's command and mark are in range
pub record IsNode (structs : List StructDef) (slots nodes : ℕ) (node : Node) : Type 0 where
  pub command : IsCmd structs slots nodes node.cmd
  pub head : IfSome node.head (IsMark slots)

-- a flow has a slot for each parameter, at least one node, and only what is there
pub record IsFlow (structs : List StructDef) (flow : Flow) : Type 0 where
  pub name : IsCName flow.name
  pub params : AreParams flow.params
  pub param_slots : length flow.params ≤ length flow.slots
  pub slots : length flow.slots ≤ 32768
  pub types : All IsTy flow.slots
  pub ret : IsTy flow.ret
  pub entry : 0 < length flow.nodes
  pub countable : IsCountable flow.nodes
  pub nodes : All (IsNode structs (length flow.slots) (length flow.nodes)) flow.nodes

-- what is listed under the name that a command calls has as many parameters as the call has arguments
abbrev pub FitsCall : {A : Type 0} → (A → List ℕ) → (A → List (List ℕ)) → List A → Cmd → Type 0
FitsCall name_of params_of listed (cmd.Call to callee args next) =
    All (λ one. name_of one ≡ callee → length (params_of one) ≡ length args) listed
FitsCall name_of params_of listed _ = Unit {0}

-- each call of what is listed has one argument for each parameter
abbrev pub FitCalls : {A : Type 0} → (A → List ℕ) → (A → List (List ℕ)) → List A → Flow → Type 0
FitCalls name_of params_of listed flow = All (λ (node : Node). FitsCall name_of params_of listed node.cmd) flow.nodes

-- the lines of a procedure's nodes in its file are 32-bit numbers
abbrev pub HasLines : Proc → Type 0
HasLines proc = All (λ (node : Node). proc.line + node.line < 4294967296) proc.flow.nodes

-- a program: structures, and procedures whose names differ, whose lines are 32-bit numbers, and whose calls fit
pub record IsProgram (program : Program) : Type 0 where
  pub structs : AreStructs program.structs
  pub countable : IsCountable program.procs
  pub flows : All (λ (proc : Proc). IsFlow program.structs proc.flow) program.procs
  pub lines : All HasLines program.procs
  pub different : HaveDifferentNames (λ (proc : Proc). proc.flow.name) program.procs
  pub calls : All
      (λ (proc : Proc). FitCalls (λ (one : Proc). one.flow.name) (λ (one : Proc). one.flow.params) program.procs proc.flow) program.procs

-- CONFIGURATIONS

-- a frame's procedure and node are there, and it has one local for each slot
abbrev pub IsFrame : Program → Frame → Type 0
IsFrame program frame =
    IsSomeAnd (slice_get program.procs frame.proc)
    (λ proc. (frame.node < length proc.flow.nodes) × (length frame.locals ≡ length proc.flow.slots))

-- the slot that a frame's value goes to is one of the frame below it, if there is one
abbrev pub ReturnsInto : Option Frame → Frame → Type 0
ReturnsInto None frame = Unit {0}
ReturnsInto (Some caller) frame = IfSome frame.to (λ to. to < length caller.locals)

-- frames on top of one, if there is one
abbrev pub AreFrames : Program → Option Frame → List Frame → Type 0
AreFrames program below [] = Unit {0}
AreFrames program below (frame ∷ frames) = IsFrame program frame × ReturnsInto below frame × AreFrames program (Some frame) frames

-- a configuration has a frame that runs, and a heap over the program's structures
pub record IsConfig (program : Program) (config : Config) : Type 0 where
  pub some : 0 < length config.stack
  pub frames : AreFrames program None config.stack
  pub heap : IsHeap program.structs config.heap

-- SYMBOLIC HEAPS

-- what may occur in a heap, and in what number
pub record Limits : Type 0 where
  -- whether, beside so many parameters, a variable may occur
  pub variables : ℕ → ℕ → Bool
  -- facts and atoms of a heap
  pub parts : ℕ
  -- specs of a procedure
  pub specs : ℕ
  -- states of a node, and exits
  pub states : ℕ

-- well-formedness alone: variables below 2^31, at most 4,000 parts, and lists that a 32-bit number can count
abbrev pub widest : Limits
widest = record { variables = λ params variable. nat_lt variable 2147483648; parts = 4000; specs = 4294967295; states = 4294967295 }

-- what the texts of a store and the analysis go up to: `$n` and `?n` with n at most 32,768, 96 parts, 8 specs, 16 states
abbrev pub storable : Limits
storable = record {
  variables = λ params variable. (not (nat_lt variable 65536) || nat_lt variable (params + 32768)) && nat_lt variable 98304;
  parts = 96;
  specs = 8;
  states = 16;
}

-- the variable of an expression may occur
abbrev pub IsExp : Limits → ℕ → Exp → Type 0
IsExp limits params (Var x) = IsTrue (limits.variables params x)
IsExp limits params (Const n) = Unit {0}

-- the variables of a fact may occur
abbrev pub IsFact : Limits → ℕ → Fact → Type 0
IsFact limits params (Eq left right) = IsExp limits params left × IsExp limits params right
IsFact limits params (Ne left right) = IsExp limits params left × IsExp limits params right

-- a cell has one expression for each field of its structure, and a segment's link is a field of its structure
abbrev pub IsAtom : Limits → List StructDef → ℕ → Atom → Type 0
IsAtom limits structs params (Points at kind fields) =
    IsExp limits params at × IsSomeAnd (struct_named structs kind) (λ def. length fields ≡ length def.fields)
    × All (IsExp limits params) fields
IsAtom limits structs params (Seg kind link from to) = IsField structs kind link × IsExp limits params from × IsExp limits params to
IsAtom limits structs params Junk = Unit {0}

-- a symbolic heap has few facts and atoms
pub record IsSymHeap (limits : Limits) (structs : List StructDef) (params : ℕ) (heap : SymHeap) : Type 0 where
  pub parts : length heap.pure + length heap.spatial ≤ limits.parts
  pub facts : All (IsFact limits params) heap.pure
  pub atoms : All (IsAtom limits structs params) heap.spatial

-- a state has one local for each slot
pub record IsState (limits : Limits) (structs : List StructDef) (params slots : ℕ) (state : SymState) : Type 0 where
  pub one_each : length state.locals ≡ slots
  pub locals : All (IsExp limits params) state.locals
  pub heap : IsSymHeap limits structs params state.heap

-- a post: its result, and its heap
pub record IsPost (limits : Limits) (structs : List StructDef) (params : ℕ) (post : Post) : Type 0 where
  pub ret : IsExp limits params post.ret
  pub heap : IsSymHeap limits structs params post.heap

-- a spec: its precondition, and its posts
pub record IsSpec (limits : Limits) (structs : List StructDef) (params : ℕ) (spec : Spec) : Type 0 where
  pub pre : IsSymHeap limits structs params spec.pre
  pub countable : IsCountable spec.posts
  pub posts : All (IsPost limits structs params) spec.posts

-- the states of one node
pub record AreStates (limits : Limits) (structs : List StructDef) (params slots : ℕ) (states : List SymState) : Type 0 where
  pub few : length states ≤ limits.states
  pub each : All (IsState limits structs params slots) states

-- a certificate has a list of states for each node of its procedure
pub record IsCert (limits : Limits) (structs : List StructDef) (flow : Flow) (cert : Cert) : Type 0 where
  pub one_each : length cert.nodes ≡ length flow.nodes
  pub nodes : All (AreStates limits structs (length flow.params) (length flow.slots)) cert.nodes
  pub few : length cert.exits ≤ limits.states
  pub exits : All (IsPost limits structs (length flow.params)) cert.exits

-- KEYS AND ANSWERS

-- a callee: its name and parameters, and few specs
pub record IsCallee (limits : Limits) (structs : List StructDef) (callee : Callee) : Type 0 where
  pub name : IsCName callee.name
  pub params : AreParams callee.params
  pub few : length callee.specs ≤ limits.specs
  pub specs : All (IsSpec limits structs (length callee.params)) callee.specs

-- each procedure's name is below the next one's, byte by byte
abbrev pub AreInNameOrder : List Flow → Type 0
AreInNameOrder flows = AllAdjacentBelow (λ (one next : Flow). slice_cmp nat_cmp one.name next.name ≡ Less) flows (length flows)

-- the procedures of a key: at least one, in name order
pub record AreKeyProcs (structs : List StructDef) (flows : List Flow) : Type 0 where
  pub some : 0 < length flows
  pub countable : IsCountable flows
  pub each : All (IsFlow structs) flows
  pub ordered : AreInNameOrder flows

-- the callees of a key: their names differ
pub record AreCallees (limits : Limits) (structs : List StructDef) (callees : List Callee) : Type 0 where
  pub countable : IsCountable callees
  pub each : All (IsCallee limits structs) callees
  pub different : HaveDifferentNames (λ (callee : Callee). callee.name) callees

-- each call of a procedure of the key, or of a callee, has one argument for each parameter
pub record FitKeyCalls (flows : List Flow) (callees : List Callee) : Type 0 where
  pub own : All (FitCalls (λ (one : Flow). one.name) (λ (one : Flow). one.params) flows) flows
  pub outer : All (FitCalls (λ (one : Callee). one.name) (λ (one : Callee). one.params) callees) flows

-- a key: structures, procedures and callees; no procedure has the name of a callee, and each call of one of either fits it
pub record IsKey (limits : Limits) (key : Key) : Type 0 where
  pub structs : AreStructs key.structs
  pub procs : AreKeyProcs key.structs key.procs
  pub callees : AreCallees limits key.structs key.callees
  pub apart : All (λ (proc : Flow). All (λ (callee : Callee). proc.name ≢ callee.name) key.callees) key.procs
  pub calls : FitKeyCalls key.procs key.callees

-- a summary of a procedure has its name, few specs, and one certificate for each of them
pub record IsSummary (limits : Limits) (structs : List StructDef) (flow : Flow) (summary : ProcSummary) : Type 0 where
  pub name : summary.name ≡ flow.name
  pub few : length summary.specs ≤ limits.specs
  pub specs : All (IsSpec limits structs (length flow.params)) summary.specs
  pub one_each : length summary.certs ≡ length summary.specs
  pub certs : All (IsCert limits structs flow) summary.certs

-- the summaries are one for each flow, in the flows' order
pub record AreSummaries (limits : Limits) (structs : List StructDef) (flows : List Flow) (summaries : List ProcSummary) : Type 0 where
  pub one_each : length summaries ≡ length flows
  pub each : (place : ℕ) (flow : Flow) (summary : ProcSummary) → place < length flows →
      IsSummary limits structs (slice_index_or flows place flow) (slice_index_or summaries place summary)

-- an answer has one summary for each procedure of its key, in the key's order
abbrev pub IsAnswer : Limits → Key → Answer → Type 0
IsAnswer limits key answer = AreSummaries limits key.structs key.procs answer.procs

-- a procedure without a spec has a reason
abbrev pub HasReason : ProcSummary → Type 0
HasReason summary = summary.specs ≡ [] → IsSome summary.reason

-- WHAT A STORE MAY HOLD

-- a key that is well formed within the limits of a store
abbrev pub IsStorableKey : Key → Type 0
IsStorableKey key = IsKey storable key

-- an answer that is well formed within the limits of a store, and says why where it has no spec
pub record IsStorableAnswer (key : Key) (answer : Answer) : Type 0 where
  pub answers : IsAnswer storable key answer
  pub reasons : All HasReason answer.procs
