-- Reading is the inverse of writing, for all things whose numbers and names fit their types.
use Rattle.std.specs.Prelude.{◌≡◌, ℕ, ◌<◌, ◌≤◌, ℤ, pos, negsuc, List, length, All, IfSome}
use Rattle.std.specs.declared.option.Option.{Option}
use Rattle.std.specs.declared.option.Option.TheVariants.{Some}
use Rattle.serde_json.specs.Data.{Data}
use Rattle.shape_data.specs.declared.program.Cmd.{Cmd}
use Rattle.shape_data.specs.declared.program.Cmd.TheVariants as cmd
use Rattle.shape_data.specs.declared.program.Field.{Field}
use Rattle.shape_data.specs.declared.program.Flow.{Flow}
use Rattle.shape_data.specs.declared.program.HeadMark.{HeadMark}
use Rattle.shape_data.specs.declared.program.Node.{Node}
use Rattle.shape_data.specs.declared.program.Operand.{Operand}
use Rattle.shape_data.specs.declared.program.Operand.TheVariants.{Slot, Num}
use Rattle.shape_data.specs.declared.program.StructDef.{StructDef}
use Rattle.shape_data.specs.declared.program.Ty.{Ty}
use Rattle.shape_data.specs.declared.program.Ty.TheVariants.{Int, Ptr, Void}

-- what fits is read back as it was written; and what is read was written so, and fits
pub record IsInverse {A : Type 0} (Fits : A → Type 0) (write : A → Data) (read : Data → Option A) : Type 0 where
  pub back : (thing : A) → Fits thing → read (write thing) ≡ Some thing
  pub only : (d : Data) (thing : A) → read d ≡ Some thing → (write thing ≡ d) × Fits thing

-- WHAT FITS: each value of the types does

-- a name has 1 to 64 bytes
abbrev pub IsName : List ℕ → Type 0
IsName name = (1 ≤ length name) × (length name ≤ 64)

-- a number has 32 bits
abbrev pub IsCount : ℕ → Type 0
IsCount n = n < 4294967296

-- a number has 32 bits with its sign
abbrev pub IsInt : ℤ → Type 0
IsInt (pos n) = n < 2147483648
IsInt (negsuc n) = n < 2147483648

abbrev pub TyFits : Ty → Type 0
TyFits Int = Unit {0}
TyFits (Ptr name) = IsName name
TyFits Void = Unit {0}

abbrev pub FieldFits : Field → Type 0
FieldFits field = IsName field.name × TyFits field.ty

abbrev pub StructFits : StructDef → Type 0
StructFits def = IsName def.name × All FieldFits def.fields

abbrev pub OperandFits : Operand → Type 0
OperandFits (Slot slot) = IsCount slot
OperandFits (Num n) = IsInt n

abbrev pub CmdFits : Cmd → Type 0
CmdFits (cmd.Copy to from next) = IsCount to × OperandFits from × IsCount next
CmdFits (cmd.Arith to op left right next) = IsCount to × Unit {0} × OperandFits left × OperandFits right × IsCount next
CmdFits (cmd.Any to ty next) = IsCount to × TyFits ty × IsCount next
CmdFits (cmd.Load to base kind field next) = IsCount to × IsCount base × IsName kind × IsCount field × IsCount next
CmdFits (cmd.Store base kind field from next) = IsCount base × IsName kind × IsCount field × OperandFits from × IsCount next
CmdFits (cmd.New to kind next) = IsCount to × IsName kind × IsCount next
CmdFits (cmd.Free base kind next) = IsCount base × IsName kind × IsCount next
CmdFits (cmd.Call to callee args next) = IfSome to IsCount × IsName callee × All OperandFits args × IsCount next
CmdFits (cmd.Branch op pointers left right on_true on_false) =
    Unit {0} × Unit {0} × OperandFits left × OperandFits right × IsCount on_true × IsCount on_false
CmdFits (cmd.Return value) = OperandFits value

abbrev pub MarkFits : HeadMark → Type 0
MarkFits mark = All IsCount mark.ints × All IsCount mark.dead

abbrev pub NodeFits : Node → Type 0
NodeFits node = IsCount node.line × IfSome node.head MarkFits × CmdFits node.cmd

pub record FlowFits (flow : Flow) : Type 0 where
  pub name : IsName flow.name
  pub nodes : All NodeFits flow.nodes
  pub params : All IsName flow.params
  pub ret : TyFits flow.ret
  pub slots : All TyFits flow.slots
