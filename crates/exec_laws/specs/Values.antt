-- The rows of the commands that touch no cell: Copy, Arith, Any, Return.
use Rattle.std.specs.Prelude.{ℕ, List, [], ◌∷◌}
use Rattle.shape_data.specs.declared.program.ArithOp.{ArithOp}
use Rattle.shape_data.specs.declared.program.Operand.{Operand}
use Rattle.shape_data.specs.declared.program.Operand.TheVariants.{Slot, Num}
use Rattle.shape_data.specs.declared.symbolic.Exp.{Exp}
use Rattle.shape_data.specs.declared.symbolic.Exp.TheVariants.{Var, Const}
use Rattle.shape_data.specs.Machine.{arith_value}
use Rattle.sym_canon.specs.declared.parts.Pair.{Pair}
use Rattle.sym_matching.specs.NewVariables.{fresh}
use Rattle.exec_laws.specs.declared.parts.Case.{Case}
use Rattle.exec_laws.specs.declared.parts.Case.TheVariants.{On, Leaves}
use Rattle.exec_laws.specs.Pairs.{in_slot, pair_variables, with_slot}

-- what an operand stands for
abbrev pub operand : Pair → Operand → Exp
operand pair (Slot slot) = in_slot pair slot
operand pair (Num n) = Const n

-- COPY: the value
abbrev pub copy : ℕ → Operand → ℕ → Pair → List Case
copy to from next pair = On next (with_slot to (operand pair from) pair) ∷ []

-- a new existential variable in the slot
abbrev pub with_any : ℕ → Pair → Pair
with_any to pair = with_slot to (Var (fresh (pair_variables pair))) pair

-- the slot has the wrapped constant of two constants; else a new existential variable
abbrev pub with_result : ℕ → ArithOp → Exp → Exp → Pair → Pair
with_result to op (Const m) (Const n) pair = with_slot to (Const (arith_value op m n)) pair
with_result to op _ _ pair = with_any to pair

-- ARITH: two constants: the wrapped constant; else a new existential variable
abbrev pub arith : ℕ → ArithOp → Operand → Operand → ℕ → Pair → List Case
arith to op left right next pair = On next (with_result to op (operand pair left) (operand pair right) pair) ∷ []

-- ANY: a new existential variable
abbrev pub any : ℕ → ℕ → Pair → List Case
any to next pair = On next (with_any to pair) ∷ []

-- RETURN: one exit, the value and the heap
abbrev pub leave : Operand → Pair → List Case
leave value pair = Leaves (record pair { state = record pair.state { locals = operand pair value ∷ [] } }) ∷ []
