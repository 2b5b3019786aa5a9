-- What comes to a node or an exit is well formed where what is given is.
use Rattle.std.specs.Prelude.{◌≡◌, ℕ, ◌≤◌, length}
use Rattle.std.specs.declared.option.Option.TheVariants.{Some}
use Rattle.shape_data.specs.declared.symbolic.Post.{Post}
use Rattle.shape_data.specs.declared.symbolic.SymHeap.{SymHeap}
use Rattle.shape_data.specs.declared.symbolic.SymState.{SymState}
use Rattle.shape_data.specs.WellFormed.{AreStructs, IsFlow, IsPost, IsState, IsSymHeap, Limits, widest}
use Rattle.sound_laws.specs.Certificates.{start_state}
use Rattle.solve_laws.specs.Certificates.Coming.{Task, at_exit, at_node, normal_post, normal_state, start_at_node}

-- a normal form, within the same limits
abbrev pub NormalStateIsWellFormed : Type 0
NormalStateIsWellFormed =
    (limits : Limits) (task : Task) (params slots : ℕ) (state form : SymState) → IsState limits task.structs params slots state →
    normal_state state ≡ Some form → IsState limits task.structs params slots form

abbrev pub NormalPostIsWellFormed : Type 0
NormalPostIsWellFormed =
    (limits : Limits) (task : Task) (params : ℕ) (post form : Post) → IsPost limits task.structs params post →
    normal_post post ≡ Some form → IsPost limits task.structs params form

-- the start state of a well-formed precondition
abbrev pub StartIsWellFormed : Type 0
StartIsWellFormed =
    (task : Task) (pre : SymHeap) → AreStructs task.structs → IsFlow task.structs task.flow →
    IsSymHeap widest task.structs (length task.flow.params) pre →
    IsState widest task.structs (length task.flow.params) (length task.flow.slots) (start_state task.flow pre)

-- and as it comes to node 0
abbrev pub StartAtNodeIsWellFormed : Type 0
StartAtNodeIsWellFormed =
    (task : Task) (pre : SymHeap) (form : SymState) → AreStructs task.structs → IsFlow task.structs task.flow →
    IsSymHeap widest task.structs (length task.flow.params) pre → start_at_node task pre ≡ Some form →
    IsState widest task.structs (length task.flow.params) (length task.flow.slots) form

-- a state that comes to a node
abbrev pub AtNodeIsWellFormed : Type 0
AtNodeIsWellFormed =
    (task : Task) (at slots : ℕ) (state form : SymState) → AreStructs task.structs → slots ≤ 32768 →
    IsState widest task.structs (length task.flow.params) slots state → at_node task at state ≡ Some form →
    IsState widest task.structs (length task.flow.params) slots form

-- a post that comes to an exit
abbrev pub AtExitIsWellFormed : Type 0
AtExitIsWellFormed =
    (task : Task) (post form : Post) → AreStructs task.structs → IsPost widest task.structs (length task.flow.params) post →
    at_exit task post ≡ Some form → IsPost widest task.structs (length task.flow.params) form
