-- The law of strict execution: what a command does, and what the answer says of it.
use Rattle.std.specs.Prelude.{◌≡◌, ℕ, ℤ, ◌+◌, ◌<◌, ◌≤◌, true, false, List, ◌++◌, length, slice_get, All}
use Rattle.std.specs.declared.option.Option.{Option}
use Rattle.std.specs.declared.option.Option.TheVariants.{Some}
use Rattle.shape_data.specs.declared.answer.Callee.{Callee}
use Rattle.shape_data.specs.declared.machine.Cell.{Cell}
use Rattle.shape_data.specs.declared.machine.Frame.{Frame}
use Rattle.shape_data.specs.declared.program.Cmd.{Cmd}
use Rattle.shape_data.specs.declared.program.Cmd.TheVariants as cmd
use Rattle.shape_data.specs.declared.program.Flow.{Flow}
use Rattle.shape_data.specs.declared.program.Node.{Node}
use Rattle.shape_data.specs.declared.program.Operand.{Operand}
use Rattle.shape_data.specs.declared.program.Program.{Program}
use Rattle.shape_data.specs.declared.program.StructDef.{StructDef}
use Rattle.shape_data.specs.declared.symbolic.Exp.{Exp}
use Rattle.shape_data.specs.declared.symbolic.Post.{Post}
use Rattle.shape_data.specs.declared.symbolic.Spec.{Spec}
use Rattle.shape_data.specs.declared.symbolic.SymState.{SymState}
use Rattle.shape_data.specs.Heap.{IsSum}
use Rattle.shape_data.specs.Meaning.{MeetsState}
use Rattle.shape_data.specs.Structures.{ContainsStructures}
use Rattle.shape_data.specs.WellFormed.{AreStructs, FitsCall, IsCallee, IsCmd, IsExp, IsFlow, IsPost, IsSpec, IsState, widest}
use Rattle.sym_canon.specs.declared.parts.Pair.{Pair}
use Rattle.sym_canon.specs.Canonical.{canon_state}
use Rattle.sym_pure.specs.IsNormal.{is_normal}
use Rattle.sound_laws.specs.Beside.{DoesBeside, DoesOnTop}
use Rattle.sound_laws.specs.Leading.{NextIsMet, PostIsMet, RowIsSound}
use Rattle.sound_laws.specs.Procedures.{IsNodeOf, IsValidCallee}
use Rattle.exec_laws.specs.declared.parts.Mode.TheVariants.{Search}
use Rattle.exec_laws.specs.declared.parts.Step.TheVariants as step
use Rattle.exec_laws.specs.declared.parts.Table.{Table}
use Rattle.exec_laws.specs.Calling.{Fit, call, found, subtracted}
use Rattle.exec_laws.specs.Execution.{cases_of, exec, post_of, search_cases}
use Rattle.exec_laws.specs.Exposing.{expose, expose_within}
use Rattle.exec_laws.specs.Pairs.{Setting, atoms_of}
use Rattle.exec_laws.specs.Rooms.{may_miss, with_parts, IsCaseWithin, IsFitWithin, IsPairWithin}

-- the callees whose specs calls may use
abbrev pub callees_of : Table → List Callee
callees_of table = table.own ++ table.outer

-- the callees of a table are well formed
abbrev pub IsTable : List StructDef → Table → Type 0
IsTable structs table = All (IsCallee widest structs) (callees_of table)

-- a call under the table has one argument for each parameter of what the table has under its name
abbrev pub FitsTable : Table → Cmd → Type 0
FitsTable table command = FitsCall (λ (one : Callee). one.name) (λ (one : Callee). one.params) (callees_of table) command

-- the law says nothing of a call under a cut table
abbrev pub IsNoCutCall : Table → Cmd → Type 0
IsNoCutCall table (cmd.Call to callee args next) = table.cut ≡ false
IsNoCutCall table _ = Unit {0}

-- strict execution of a node of a procedure answers `Next`, in a case of which the law speaks
pub record Executes (flow : Flow) (structs : List StructDef) (at : ℕ) (node : Node) (state : SymState) (table : Table)
    (nexts : List (ℕ × SymState)) (exits : List Post) : Type 0 where
  pub is_node : slice_get flow.nodes at ≡ Some node
  pub good_table : IsTable structs table
  pub fits : FitsTable table node.cmd
  pub uncut : IsNoCutCall table node.cmd
  pub answers : exec flow structs at state table ≡ step.Next nexts exits

-- the law of strict execution: in each program whose structures contain those of the call, the node's command leads from what meets
-- the state to what meets one of the successors at its node, or one of the exits, with nothing beside its heap and nobody waiting for
-- it; a call fits one of the table's specs
abbrev pub ExecutionIsSound : Type 0
ExecutionIsSound =
    (flow : Flow) (structs : List StructDef) (at : ℕ) (node : Node) (state : SymState) (table : Table)
    (nexts : List (ℕ × SymState)) (exits : List Post) →
    Executes flow structs at node state table nexts exits → (program : Program) → ContainsStructures program.structs structs →
    RowIsSound program (callees_of table) state node.cmd nexts exits

-- as its users read it: where the table's specs are valid, so it is beside every frame, which stays as it is
abbrev pub ExecutionIsSoundBesideFrames : Type 0
ExecutionIsSoundBesideFrames =
    (flow : Flow) (structs : List StructDef) (at : ℕ) (node : Node) (state : SymState) (table : Table)
    (nexts : List (ℕ × SymState)) (exits : List Post) →
    Executes flow structs at node state table nexts exits → (program : Program) → ContainsStructures program.structs structs →
    All (IsValidCallee program) (callees_of table) → (number : ℕ) → IsNodeOf program number at node →
    (s : ℕ → ℤ) (locals : List ℤ) (own : List Cell) → MeetsState program.structs s locals own state →
    (frame whole : List Cell) → IsSum program.structs whole own frame →
    DoesBeside program (NextIsMet program.structs s nexts) (PostIsMet program.structs s exits) number at locals frame whole node.cmd

-- and so it is on top of any frames that wait
abbrev pub ExecutionIsSoundOnAnyStack : Type 0
ExecutionIsSoundOnAnyStack =
    (flow : Flow) (structs : List StructDef) (at : ℕ) (node : Node) (state : SymState) (table : Table)
    (nexts : List (ℕ × SymState)) (exits : List Post) →
    Executes flow structs at node state table nexts exits → (program : Program) → ContainsStructures program.structs structs →
    All (IsValidCallee program) (callees_of table) → (number : ℕ) → IsNodeOf program number at node →
    (s : ℕ → ℤ) (locals : List ℤ) (own : List Cell) → MeetsState program.structs s locals own state →
    (frame whole : List Cell) → IsSum program.structs whole own frame → (below : List Frame) (caller : Frame) (back : Option ℕ) →
    DoesOnTop program (NextIsMet program.structs s nexts) (PostIsMet program.structs s exits) number at locals frame whole below caller
    back node.cmd

-- the canonical form of a normal state
abbrev pub IsForm : ℕ → SymState → Type 0
IsForm params state = (form : SymState) × (is_normal form ≡ true) × (state ≡ canon_state form params)

-- a post of the canonical form of a normal state
abbrev pub IsFormOfPost : ℕ → Post → Type 0
IsFormOfPost params post = (form : SymState) × (is_normal form ≡ true) × (post ≡ post_of (canon_state form params))

-- what strict execution answers is in normal and then canonical form
abbrev pub AnswersAreForms : Type 0
AnswersAreForms =
    (flow : Flow) (structs : List StructDef) (at : ℕ) (state : SymState) (table : Table) (nexts : List (ℕ × SymState)) (exits : List Post) →
    exec flow structs at state table ≡ step.Next nexts exits →
    All (λ (next : ℕ × SymState). IsForm (length flow.params) next.1) nexts × All (IsFormOfPost (length flow.params)) exits

-- as many turns of expose as there are atoms are enough: more change nothing
abbrev pub MoreTurnsChangeNothing : Type 0
MoreTurnsChangeNothing =
    (more : ℕ) (setting : Setting) (kind : List ℕ) (slot : ℕ) (pair : Pair) →
    expose_within (length (atoms_of pair) + more) setting kind slot pair ≡ expose setting kind slot pair

-- the command is no call
abbrev pub IsNoCall : Cmd → Type 0
IsNoCall (cmd.Call to callee args next) = ⊥
IsNoCall _ = Unit {0}

-- what strict execution answers for a command other than a call is well formed where the state is, with at most three parts more
abbrev pub AnswersAreWellFormed : Type 0
AnswersAreWellFormed =
    (flow : Flow) (structs : List StructDef) (at : ℕ) (node : Node) (state : SymState) (table : Table)
    (nexts : List (ℕ × SymState)) (exits : List Post) (parts : ℕ) →
    AreStructs structs → IsFlow structs flow → slice_get flow.nodes at ≡ Some node → IsNoCall node.cmd → parts ≤ 4000 →
    IsState (with_parts parts) structs (length flow.params) (length flow.slots) state →
    exec flow structs at state table ≡ step.Next nexts exits →
    All (λ (next : ℕ × SymState). (next.0 < length flow.nodes)
    × IsState (with_parts (parts + 3)) structs (length flow.params) (length flow.slots) next.1) nexts
    × All (IsPost (with_parts (parts + 3)) structs (length flow.params)) exits

-- the specs of a table's callees are well formed, with at most so many parts in each heap
abbrev pub IsTableWithin : List StructDef → ℕ → Table → Type 0
IsTableWithin structs most table = All (IsCallee (with_parts most) structs) (callees_of table)

-- what strict execution answers is well formed where the state is, for every command, with at most so many parts more as the heaps of specs
-- have,
-- or three
abbrev pub AllAnswersAreWellFormed : Type 0
AllAnswersAreWellFormed =
    (flow : Flow) (structs : List StructDef) (at : ℕ) (node : Node) (state : SymState) (table : Table)
    (nexts : List (ℕ × SymState)) (exits : List Post) (parts most : ℕ) →
    AreStructs structs → IsFlow structs flow → slice_get flow.nodes at ≡ Some node → IsTableWithin structs most table →
    FitsTable table node.cmd → parts ≤ 4000 → 3 ≤ most → most ≤ 4000 →
    IsState (with_parts parts) structs (length flow.params) (length flow.slots) state →
    exec flow structs at state table ≡ step.Next nexts exits →
    All (λ (next : ℕ × SymState). (next.0 < length flow.nodes)
    × IsState (with_parts (parts + most)) structs (length flow.params) (length flow.slots) next.1) nexts
    × All (IsPost (with_parts (parts + most)) structs (length flow.params)) exits

-- in both modes: the cases of a command other than a call are well formed where the pair is, with at most three parts more
abbrev pub RowsKeepWellFormed : Type 0
RowsKeepWellFormed =
    (setting : Setting) (pair : Pair) (command : Cmd) (params slots nodes parts weight : ℕ) → AreStructs setting.structs →
    IsNoCall command →
    IsCmd setting.structs slots nodes command → slots ≤ 32768 → setting.params ≤ 32768 → parts ≤ 4000 → weight ≤ 8000 →
    IsPairWithin setting.structs params slots parts weight pair →
    All (IsCaseWithin setting.structs params slots nodes (parts + 3) (weight + 3)) (cases_of setting pair command)

-- a spec that fits, by subtraction or by abduction, gives what is well formed
abbrev pub SubtractedFitsAreWithin : Type 0
SubtractedFitsAreWithin =
    (structs : List StructDef) (args : List Exp) (pair : Pair) (spec : Spec) (fit : Fit) (before params slots parts weight most : ℕ) →
    AreStructs structs →
    IsSpec (with_parts most) structs before spec → length args ≤ 32768 → All (IsExp widest params) args → slots ≤ 32768 → parts ≤ 4000 →
    weight ≤ 8000 → most ≤ 4000 →
    IsPairWithin structs params slots parts weight pair → subtracted args pair spec ≡ Some fit →
    IsFitWithin structs params parts weight pair fit

abbrev pub FoundFitsAreWithin : Type 0
FoundFitsAreWithin =
    (setting : Setting) (args : List Exp) (pair : Pair) (spec : Spec) (fit : Fit) (before params slots parts weight most : ℕ) →
    AreStructs setting.structs →
    IsSpec (with_parts most) setting.structs before spec → length args ≤ 32768 → All (IsExp widest params) args → slots ≤ 32768 →
    setting.params ≤ 32768 → parts ≤ 4000 → weight ≤ 8000 → most ≤ 4000 →
    IsPairWithin setting.structs params slots parts weight pair → found setting args pair spec ≡ Some fit →
    IsFitWithin setting.structs params (parts + may_miss Search most) (weight + may_miss Search most) pair fit

-- in both modes: the cases of a call are well formed where the pair is, with at most so many parts more as the heaps of specs have, and
-- what
-- may be missing for a precondition
abbrev pub CallsKeepWellFormed : Type 0
CallsKeepWellFormed =
    (setting : Setting) (pair : Pair) (to : Option ℕ) (callee : List ℕ) (args : List Operand)
    (next params slots nodes parts weight most : ℕ) → AreStructs setting.structs →
    IsTableWithin setting.structs most setting.table → FitsTable setting.table (cmd.Call to callee args next) → next < nodes →
    slots ≤ 32768 → setting.params ≤ 32768 → parts ≤ 4000 → weight ≤ 8000 → most ≤ 4000 →
    IsPairWithin setting.structs params slots parts weight pair →
    All (IsCaseWithin setting.structs params slots nodes (parts + most + may_miss setting.mode most)
    (weight + most + may_miss setting.mode most)) (call setting to callee args next pair)

-- and so the cases of every command, with at most so many parts more or three
abbrev pub AllRowsKeepWellFormed : Type 0
AllRowsKeepWellFormed =
    (setting : Setting) (pair : Pair) (command : Cmd) (params slots nodes parts weight most : ℕ) → AreStructs setting.structs →
    IsTableWithin setting.structs most setting.table → FitsTable setting.table command → IsCmd setting.structs slots nodes command →
    slots ≤ 32768 → setting.params ≤ 32768 → parts ≤ 4000 → weight ≤ 8000 → 3 ≤ most → most ≤ 4000 →
    IsPairWithin setting.structs params slots parts weight pair →
    All (IsCaseWithin setting.structs params slots nodes (parts + most + may_miss setting.mode most)
    (weight + most + may_miss setting.mode most)) (cases_of setting pair command)

-- in the search: the cases that a node is answered, in normal and canonical form, are well formed where the pair is, with no more parts
-- than
-- its command's cases
abbrev pub SearchCasesAreWellFormed : Type 0
SearchCasesAreWellFormed =
    (flow : Flow) (structs : List StructDef) (at : ℕ) (node : Node) (pair : Pair) (table : Table) (parts weight most : ℕ) →
    AreStructs structs → IsFlow structs flow →
    slice_get flow.nodes at ≡ Some node → IsTableWithin structs most table → FitsTable table node.cmd → parts ≤ 4000 → weight ≤ 8000 →
    3 ≤ most → most ≤ 4000 →
    IsPairWithin structs (length flow.params) (length flow.slots) parts weight pair →
    All (IsCaseWithin structs (length flow.params) (length flow.slots) (length flow.nodes) (parts + most + may_miss Search most)
    (weight + most + may_miss Search most)) (search_cases flow structs at pair table)
