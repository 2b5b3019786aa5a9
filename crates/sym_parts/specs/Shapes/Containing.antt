-- What is well formed over a list of structures, or holds over it, is so over each list that contains it: a key has only the
-- structures that it uses, its program has them all.
use Rattle.std.specs.Prelude.{◌↔◌, ℕ, ℤ, List, All}
use Rattle.shape_data.specs.declared.answer.Callee.{Callee}
use Rattle.shape_data.specs.declared.answer.ProcSummary.{ProcSummary}
use Rattle.shape_data.specs.declared.machine.Cell.{Cell}
use Rattle.shape_data.specs.declared.program.Cmd.{Cmd}
use Rattle.shape_data.specs.declared.program.Flow.{Flow}
use Rattle.shape_data.specs.declared.program.StructDef.{StructDef}
use Rattle.shape_data.specs.declared.symbolic.Atom.{Atom}
use Rattle.shape_data.specs.declared.symbolic.Atom.TheVariants.{Points, Seg, Junk}
use Rattle.shape_data.specs.declared.symbolic.Cert.{Cert}
use Rattle.shape_data.specs.declared.symbolic.Post.{Post}
use Rattle.shape_data.specs.declared.symbolic.Spec.{Spec}
use Rattle.shape_data.specs.declared.symbolic.SymHeap.{SymHeap}
use Rattle.shape_data.specs.declared.symbolic.SymState.{SymState}
use Rattle.shape_data.specs.Heap.{IsHeap, IsSum}
use Rattle.shape_data.specs.Meaning.{Holds, Meets, MeetsState, MeetsPost}
use Rattle.shape_data.specs.Structures.{ContainsStructures}
use Rattle.shape_data.specs.WellFormed.{AreCallees, AreKeyProcs, AreStates, IsAtom, IsCallee, IsCert, IsCmd, IsField, IsFlow, IsKind}
use Rattle.shape_data.specs.WellFormed.{IsPost, IsSpec, IsState, IsSummary, IsSymHeap, Limits}

-- each list contains itself, and what a list contains is contained in each that contains the list
abbrev pub ContainsItself : Type 0
ContainsItself = (structs : List StructDef) → ContainsStructures structs structs

abbrev pub ContainsThrough : Type 0
ContainsThrough = (large middle small : List StructDef) → ContainsStructures large middle → ContainsStructures middle small →
    ContainsStructures large small

-- HEAPS

-- a heap over the smaller list is one over the larger
abbrev pub HeapCarries : Type 0
HeapCarries = (larger smaller : List StructDef) → ContainsStructures larger smaller → (heap : List Cell) → IsHeap smaller heap →
    IsHeap larger heap

-- and so is a sum of heaps
abbrev pub SumCarries : Type 0
SumCarries =
    (larger smaller : List StructDef) → ContainsStructures larger smaller → (whole left right : List Cell) →
    IsSum smaller whole left right → IsSum larger whole left right

-- a sum over one list whose whole is a heap over another is a sum over that one: its parts have no other cells
abbrev pub SumOverOwnShapes : Type 0
SumOverOwnShapes =
    (structs others : List StructDef) (whole left right : List Cell) → IsHeap others whole → IsSum structs whole left right →
    IsSum others whole left right

-- WELL-FORMEDNESS

-- kinds and fields, and so the commands that name them
abbrev pub KindCarries : Type 0
KindCarries = (larger smaller : List StructDef) → ContainsStructures larger smaller → (kind : List ℕ) → IsKind smaller kind →
    IsKind larger kind

abbrev pub FieldCarries : Type 0
FieldCarries = (larger smaller : List StructDef) → ContainsStructures larger smaller → (kind : List ℕ) (field : ℕ) →
    IsField smaller kind field → IsField larger kind field

abbrev pub CmdCarries : Type 0
CmdCarries = (larger smaller : List StructDef) → ContainsStructures larger smaller → (slots nodes : ℕ) (cmd : Cmd) →
    IsCmd smaller slots nodes cmd → IsCmd larger slots nodes cmd

-- flows
abbrev pub FlowCarries : Type 0
FlowCarries = (larger smaller : List StructDef) → ContainsStructures larger smaller → (flow : Flow) → IsFlow smaller flow →
    IsFlow larger flow

-- the procedures of a key
abbrev pub ProcsCarry : Type 0
ProcsCarry = (larger smaller : List StructDef) → ContainsStructures larger smaller → (flows : List Flow) → AreKeyProcs smaller flows →
    AreKeyProcs larger flows

-- atoms
abbrev pub AtomCarries : Type 0
AtomCarries =
    (limits : Limits) (larger smaller : List StructDef) → ContainsStructures larger smaller → (params : ℕ) (atom : Atom) →
    IsAtom limits smaller params atom → IsAtom limits larger params atom

-- symbolic heaps
abbrev pub SymHeapCarries : Type 0
SymHeapCarries =
    (limits : Limits) (larger smaller : List StructDef) → ContainsStructures larger smaller → (params : ℕ) (heap : SymHeap) →
    IsSymHeap limits smaller params heap → IsSymHeap limits larger params heap

-- states
abbrev pub StateCarries : Type 0
StateCarries =
    (limits : Limits) (larger smaller : List StructDef) → ContainsStructures larger smaller → (params slots : ℕ) (state : SymState) →
    IsState limits smaller params slots state → IsState limits larger params slots state

-- the states of a node
abbrev pub StatesCarry : Type 0
StatesCarry =
    (limits : Limits) (larger smaller : List StructDef) → ContainsStructures larger smaller → (params slots : ℕ) (states : List SymState) →
    AreStates limits smaller params slots states → AreStates limits larger params slots states

-- posts
abbrev pub PostCarries : Type 0
PostCarries =
    (limits : Limits) (larger smaller : List StructDef) → ContainsStructures larger smaller → (params : ℕ) (post : Post) →
    IsPost limits smaller params post → IsPost limits larger params post

-- specs
abbrev pub SpecCarries : Type 0
SpecCarries =
    (limits : Limits) (larger smaller : List StructDef) → ContainsStructures larger smaller → (params : ℕ) (spec : Spec) →
    IsSpec limits smaller params spec → IsSpec limits larger params spec

-- certificates
abbrev pub CertCarries : Type 0
CertCarries =
    (limits : Limits) (larger smaller : List StructDef) → ContainsStructures larger smaller → (flow : Flow) (cert : Cert) →
    IsCert limits smaller flow cert → IsCert limits larger flow cert

-- callees, and lists of them
abbrev pub CalleeCarries : Type 0
CalleeCarries =
    (limits : Limits) (larger smaller : List StructDef) → ContainsStructures larger smaller → (callee : Callee) →
    IsCallee limits smaller callee → IsCallee limits larger callee

abbrev pub CalleesCarry : Type 0
CalleesCarry =
    (limits : Limits) (larger smaller : List StructDef) → ContainsStructures larger smaller → (callees : List Callee) →
    AreCallees limits smaller callees → AreCallees limits larger callees

-- summaries
abbrev pub SummaryCarries : Type 0
SummaryCarries =
    (limits : Limits) (larger smaller : List StructDef) → ContainsStructures larger smaller → (flow : Flow) (summary : ProcSummary) →
    IsSummary limits smaller flow summary → IsSummary limits larger flow summary

-- MEANING

-- what holds over the smaller list holds over the larger
abbrev pub HoldsCarries : Type 0
HoldsCarries =
    (larger smaller : List StructDef) → ContainsStructures larger smaller → (s : ℕ → ℤ) (heap : List Cell) (shape : SymHeap) →
    Holds smaller s heap shape → Holds larger s heap shape

-- of a heap over both lists the two say the same
abbrev pub HoldsAlike : Type 0
HoldsAlike =
    (structs others : List StructDef) (s : ℕ → ℤ) (heap : List Cell) (shape : SymHeap) → IsHeap structs heap → IsHeap others heap →
    Holds structs s heap shape ↔ Holds others s heap shape

abbrev pub MeetsAlike : Type 0
MeetsAlike =
    (structs others : List StructDef) (s : ℕ → ℤ) (heap : List Cell) (shape : SymHeap) → IsHeap structs heap → IsHeap others heap →
    Meets structs s heap shape ↔ Meets others s heap shape

abbrev pub MeetsStateAlike : Type 0
MeetsStateAlike =
    (structs others : List StructDef) (s : ℕ → ℤ) (locals : List ℤ) (heap : List Cell) (state : SymState) → IsHeap structs heap →
    IsHeap others heap →
    MeetsState structs s locals heap state ↔ MeetsState others s locals heap state

abbrev pub MeetsPostAlike : Type 0
MeetsPostAlike =
    (structs others : List StructDef) (s : ℕ → ℤ) (ret : ℤ) (heap : List Cell) (post : Post) → IsHeap structs heap → IsHeap others heap →
    MeetsPost structs s ret heap post ↔ MeetsPost others s ret heap post

-- the atom is a cell of a kind of the list, with all its fields, or a segment of such a kind; junk is neither
abbrev pub IsOfKinds : List StructDef → Atom → Type 0
IsOfKinds structs (Points at kind fields) = IsKind structs kind
IsOfKinds structs (Seg kind link from to) = IsKind structs kind
IsOfKinds structs Junk = ⊥

-- what holds over the larger list, of a symbolic heap whose atoms are all of kinds of the smaller and none of which is junk, holds
-- over the smaller: its cells have the shapes of the smaller list
abbrev pub HoldsOverOwnKinds : Type 0
HoldsOverOwnKinds =
    (larger smaller : List StructDef) → ContainsStructures larger smaller → (s : ℕ → ℤ) (heap : List Cell) (shape : SymHeap) →
    All (IsOfKinds smaller) shape.spatial →
    Holds larger s heap shape → Holds smaller s heap shape
