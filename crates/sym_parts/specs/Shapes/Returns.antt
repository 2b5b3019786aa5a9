-- Procedures that return at once, and what is right of them.
use Rattle.std.specs.Prelude.{◌≡◌, ℕ, [], ◌∷◌, slice_get}
use Rattle.std.specs.declared.option.Option.TheVariants.{None, Some}
use Rattle.shape_data.specs.declared.program.Cmd.TheVariants as cmd
use Rattle.shape_data.specs.declared.program.Flow.{Flow}
use Rattle.shape_data.specs.declared.program.Node.{Node}
use Rattle.shape_data.specs.declared.program.Operand.{Operand}
use Rattle.shape_data.specs.declared.program.Operand.TheVariants.{Slot}
use Rattle.shape_data.specs.declared.program.Proc.{Proc}
use Rattle.shape_data.specs.declared.program.Program.{Program}
use Rattle.shape_data.specs.declared.program.Ty.TheVariants.{Int}
use Rattle.shape_data.specs.declared.symbolic.Exp.{Exp}
use Rattle.shape_data.specs.declared.symbolic.Spec.{Spec}
use Rattle.sym_parts.specs.Shapes.Symbolic.{emp}

-- the procedure of this number returns this operand first of all
pub record ReturnsAtOnce (program : Program) (number : ℕ) (operand : Operand) : Type 0 where
  pub proc : Proc
  pub node : Node
  pub is_proc : slice_get program.procs number ≡ Some proc
  pub is_first : slice_get proc.flow.nodes 0 ≡ Some node
  pub is_return : node.cmd ≡ cmd.Return operand

-- from nothing a procedure returns this value, and owns nothing
abbrev pub returns_value : Exp → Spec
returns_value ret = record { pre = emp; posts = record { ret = ret; heap = emp } ∷ [] }

-- `int id(int a){return a;}` in flow form
abbrev pub identity_flow : Flow
identity_flow = record {
  name = 105 ∷ 100 ∷ [];
  params = (97 ∷ []) ∷ [];
  slots = Int ∷ Int ∷ [];
  ret = Int;
  nodes =
      record { line = 0; cmd = cmd.Return (Slot 0); head = None } ∷
      record { line = 0; cmd = cmd.Any 1 Int 2; head = None } ∷
      record { line = 0; cmd = cmd.Return (Slot 1); head = None } ∷ [];
}

-- the program of that procedure alone, the file `a.c`
abbrev pub identity_program : Program
identity_program = record { structs = []; procs = record { flow = identity_flow; file = 97 ∷ 46 ∷ 99 ∷ []; line = 1 } ∷ [] }
