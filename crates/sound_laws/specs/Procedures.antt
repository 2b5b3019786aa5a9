-- Procedures of a program found by their names, and callees that stand in it with valid specs.
use Rattle.std.specs.Prelude.{◌≡◌, ℕ, List, slice_get, All}
use Rattle.std.specs.declared.option.Option.TheVariants.{Some}
use Rattle.shape_data.specs.declared.answer.Callee.{Callee}
use Rattle.shape_data.specs.declared.program.Flow.{Flow}
use Rattle.shape_data.specs.declared.program.Node.{Node}
use Rattle.shape_data.specs.declared.program.Proc.{Proc}
use Rattle.shape_data.specs.declared.program.Program.{Program}
use Rattle.shape_data.specs.Machine.{proc_named_from}
use Rattle.shape_data.specs.Names.{HaveDifferentNames}
use Rattle.shape_data.specs.Valid.{Valid}

-- the name finds a procedure of the program, of this number: it is the one that a call of the name runs
abbrev pub Finds : Program → List ℕ → ℕ → Proc → Type 0
Finds program name number proc = proc_named_from 0 program.procs name ≡ Some (number, proc)

-- the node stands at this place of the procedure of this number
abbrev pub IsNodeOf : Program → ℕ → ℕ → Node → Type 0
IsNodeOf program number at node = (proc : Proc) × (slice_get program.procs number ≡ Some proc) × (slice_get proc.flow.nodes at ≡ Some node)

-- where names differ, each procedure is found by its own
abbrev pub FoundByName : Type 0
FoundByName =
    (program : Program) (number : ℕ) (proc : Proc) → HaveDifferentNames (λ (one : Proc). one.flow.name) program.procs →
    slice_get program.procs number ≡ Some proc → Finds program proc.flow.name number proc

-- the flow stands in the program under its name
pub record HasFlow (program : Program) (flow : Flow) : Type 0 where
  pub number : ℕ
  pub proc : Proc
  pub found : Finds program flow.name number proc
  pub same : proc.flow ≡ flow

-- and so each of its flows stands in the program
abbrev pub HasOwnFlows : Type 0
HasOwnFlows =
    (program : Program) → HaveDifferentNames (λ (one : Proc). one.flow.name) program.procs →
    All (λ (proc : Proc). HasFlow program proc.flow) program.procs

-- the callee is a procedure of the program, with its own parameters, and its specs are valid there
pub record IsValidCallee (program : Program) (callee : Callee) : Type 0 where
  pub number : ℕ
  pub proc : Proc
  pub found : Finds program callee.name number proc
  pub params : proc.flow.params ≡ callee.params
  pub valid : All (Valid program number) callee.specs
