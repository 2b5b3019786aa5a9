-- A recursive procedure with its spec and certificate.
use Rattle.std.specs.Prelude.{pos, false, List, [], ◌∷◌}
use Rattle.std.specs.declared.option.Option.TheVariants.{Some}
use Rattle.shape_data.specs.declared.answer.Callee.{Callee}
use Rattle.shape_data.specs.declared.program.ArithOp.TheVariants.{Sub}
use Rattle.shape_data.specs.declared.program.Cmd.TheVariants as cmd
use Rattle.shape_data.specs.declared.program.Flow.{Flow}
use Rattle.shape_data.specs.declared.program.Operand.TheVariants.{Slot, Num}
use Rattle.shape_data.specs.declared.program.Proc.{Proc}
use Rattle.shape_data.specs.declared.program.Program.{Program}
use Rattle.shape_data.specs.declared.program.TestOp.TheVariants as test
use Rattle.shape_data.specs.declared.program.Ty.TheVariants.{Int}
use Rattle.shape_data.specs.declared.symbolic.Cert.{Cert}
use Rattle.shape_data.specs.declared.symbolic.Exp.{Exp}
use Rattle.shape_data.specs.declared.symbolic.Exp.TheVariants.{Var, Const}
use Rattle.shape_data.specs.declared.symbolic.Spec.{Spec}
use Rattle.shape_data.specs.declared.symbolic.SymState.{SymState}
use Rattle.sym_parts.specs.Shapes.Examples.{on_line}
use Rattle.sym_parts.specs.Shapes.Symbolic.{emp}
use Rattle.sound_laws.specs.Certificates.{Claim}

-- `int down(int a) { if (a == 0) return 7; int r = down(a - 1); return r; }`, with a slot for a - 1
abbrev pub down_flow : Flow
down_flow = record {
  name = 100 ∷ 111 ∷ 119 ∷ 110 ∷ [];
  params = (97 ∷ []) ∷ [];
  slots = Int ∷ Int ∷ Int ∷ [];
  ret = Int;
  nodes =
      on_line 0 (cmd.Branch test.Eq false (Slot 0) (Num (pos 0)) 1 2) ∷
      on_line 0 (cmd.Return (Num (pos 7))) ∷
      on_line 0 (cmd.Arith 1 Sub (Slot 0) (Num (pos 1)) 3) ∷
      on_line 0 (cmd.Call (Some 2) (100 ∷ 111 ∷ 119 ∷ 110 ∷ []) (Slot 1 ∷ []) 4) ∷
      on_line 0 (cmd.Return (Slot 2)) ∷ [];
}

-- on line 1 of the file `a.c`
abbrev pub down_proc : Proc
down_proc = record { flow = down_flow; file = 97 ∷ 46 ∷ 99 ∷ []; line = 1 }

-- the program of that procedure alone
abbrev pub down_program : Program
down_program = record { structs = []; procs = down_proc ∷ [] }

-- it owns nothing, and returns 7
abbrev pub down_spec : Spec
down_spec = record { pre = emp; posts = record { ret = Const (pos 7); heap = emp } ∷ [] }

-- a state that owns nothing
abbrev pub bare : Exp → Exp → Exp → SymState
bare a less r = record { locals = a ∷ less ∷ r ∷ []; heap = emp }

-- the certificate: one state at each node, the first existential variable being a - 1; and the one exit
abbrev pub down_cert : Cert
down_cert = record {
  nodes =
      (bare (Var 0) (Const (pos 0)) (Const (pos 0)) ∷ []) ∷
      (bare (Var 0) (Const (pos 0)) (Const (pos 0)) ∷ []) ∷
      (bare (Var 0) (Const (pos 0)) (Const (pos 0)) ∷ []) ∷
      (bare (Var 0) (Var 65536) (Const (pos 0)) ∷ []) ∷
      (bare (Var 0) (Var 65536) (Const (pos 7)) ∷ []) ∷ [];
  exits = record { ret = Const (pos 7); heap = emp } ∷ [];
}

-- what its call uses: the spec that is to be shown
abbrev pub down_callees : List Callee
down_callees = record { name = down_flow.name; params = down_flow.params; specs = down_spec ∷ [] } ∷ []

-- what is claimed of it
abbrev pub down_claims : List Claim
down_claims = record { number = 0; spec = down_spec; cert = down_cert } ∷ []
