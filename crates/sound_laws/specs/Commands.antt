-- What one command does, from locals and a heap of their own: with nothing beside the heap, and with nobody waiting for the
-- procedure. A call is no step here: it says which spec of the callee is used, and on which part of the heap.
use Rattle.std.specs.Prelude.{◌≡◌, ℕ, ℤ, List, [], ◌∷◌, map, slice_set, Contains}
use Rattle.std.specs.declared.option.Option.{Option}
use Rattle.std.specs.declared.option.Option.TheVariants.{None, Some}
use Rattle.shape_data.specs.declared.answer.Callee.{Callee}
use Rattle.shape_data.specs.declared.machine.Cell.{Cell}
use Rattle.shape_data.specs.declared.machine.Choice.{Choice}
use Rattle.shape_data.specs.declared.machine.Frame.{Frame}
use Rattle.shape_data.specs.declared.machine.Stepped.{Stepped}
use Rattle.shape_data.specs.declared.machine.Stepped.TheVariants as stepped
use Rattle.shape_data.specs.declared.program.Cmd.{Cmd}
use Rattle.shape_data.specs.declared.program.Cmd.TheVariants as cmd
use Rattle.shape_data.specs.declared.program.Operand.{Operand}
use Rattle.shape_data.specs.declared.program.Program.{Program}
use Rattle.shape_data.specs.declared.program.StructDef.{StructDef}
use Rattle.shape_data.specs.declared.symbolic.Spec.{Spec}
use Rattle.shape_data.specs.Heap.{IsSum}
use Rattle.shape_data.specs.Machine.{operand_value, step_cmd}
use Rattle.shape_data.specs.Meaning.{Meets, MeetsOne}
use Rattle.shape_data.specs.Valid.{values_from}

-- an assertion about locals and a heap at a node
abbrev pub NodeAssertion : Type 1
NodeAssertion = ℕ → List ℤ → List Cell → Type 0

-- an assertion about a result and a heap
abbrev pub ResultAssertion : Type 1
ResultAssertion = ℤ → List Cell → Type 0

-- a frame that nobody waits for
abbrev pub alone : ℕ → ℕ → List ℤ → Frame
alone number node locals = record { proc = number; node = node; locals = locals; to = None }

-- the locals with a returned value in the slot that it goes to, if there is one
abbrev pub received_locals : Option ℕ → ℤ → List ℤ → List ℤ
received_locals None value locals = locals
received_locals (Some to) value locals = slice_set locals to value

-- a step lands: it goes on at a node where `At` holds of the locals and the heap, or returns a value and a heap of which
-- `Ends` holds; it does not fault
abbrev pub Lands : NodeAssertion → ResultAssertion → ℕ → Stepped → Type 0
Lands At Ends number (stepped.On config) =
    (node : ℕ) × (locals : List ℤ) × (config.stack ≡ alone number node locals ∷ []) × At node locals config.heap
Lands At Ends number (stepped.Returned value heap) = Ends value heap
Lands At Ends number (stepped.Fault line cause) = ⊥
Lands At Ends number stepped.BadChoice = Unit {0}

-- a call fits: one of the callees has the name and a spec whose precondition a part of the heap meets, and whatever is given back
-- beside the rest of it meets what `At` says
pub record CallFits (structs : List StructDef) (callees : List Callee) (At : List ℤ → List Cell → Type 0)
    (locals : List ℤ) (heap : List Cell) (to : Option ℕ) (name : List ℕ) (args : List Operand) : Type 0 where
  -- a spec that is listed under the name
  pub callee : Callee
  pub is_callee : Contains callees callee
  pub is_named : callee.name ≡ name
  pub spec : Spec
  pub is_spec : Contains callee.specs spec
  -- values for its logical variables, the parameters having those of the arguments
  pub s : ℕ → ℤ
  pub arguments : map (operand_value locals) args ≡ values_from s 0 callee.params
  -- the heap is what is lent to the callee, which meets the precondition, and what is kept
  pub lent : List Cell
  pub kept : List Cell
  pub sum : IsSum structs heap lent kept
  pub pre : Meets structs s lent spec.pre
  -- whatever the callee gives back with a result, as its posts allow
  pub back : (value : ℤ) (given whole : List Cell) → IsSum structs whole given kept → MeetsOne structs s value given spec.posts →
      At (received_locals to value locals) whole

-- what a command does from locals and a heap, where calls use the specs of these callees: a call fits, and each step of another
-- command lands
abbrev pub Does : Program → List Callee → NodeAssertion → ResultAssertion → List ℤ → List Cell → Cmd → Type 0
Does program callees At Ends locals heap (cmd.Call to name args next) = CallFits program.structs callees (At next) locals heap to name args
Does program callees At Ends locals heap command =
    (number node line : ℕ) (choice : Choice) →
    Lands At Ends number (step_cmd program [] (alone number node locals) heap choice line command)
