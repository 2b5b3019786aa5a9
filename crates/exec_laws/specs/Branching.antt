-- The row of Branch.
use Rattle.std.specs.Prelude.{ℕ, pos, Bool, true, false, if◌then◌else◌, List, [], ◌∷◌, ◌++◌}
use Rattle.std.specs.declared.option.Option.{Option}
use Rattle.std.specs.declared.option.Option.TheVariants.{None, Some}
use Rattle.shape_data.specs.declared.program.Operand.{Operand}
use Rattle.shape_data.specs.declared.program.TestOp.{TestOp}
use Rattle.shape_data.specs.declared.program.TestOp.TheVariants as test
use Rattle.shape_data.specs.declared.symbolic.Exp.{Exp}
use Rattle.shape_data.specs.declared.symbolic.Exp.TheVariants.{Const}
use Rattle.shape_data.specs.declared.symbolic.Fact.{Fact}
use Rattle.shape_data.specs.declared.symbolic.Fact.TheVariants.{Eq, Ne}
use Rattle.shape_data.specs.declared.symbolic.SymHeap.{SymHeap}
use Rattle.shape_data.specs.Machine.{test_passes}
use Rattle.sym_parts.specs.Laws.Expressions.{same_exp}
use Rattle.sym_canon.specs.declared.parts.Pair.{Pair}
use Rattle.sym_pure.specs.Sources.{differs}
use Rattle.exec_laws.specs.declared.parts.Case.{Case}
use Rattle.exec_laws.specs.declared.parts.Case.TheVariants.{On}
use Rattle.exec_laws.specs.Cells.{goes_on}
use Rattle.exec_laws.specs.Pairs.{Setting, where_true, where_true_in_state}
use Rattle.exec_laws.specs.Values.{operand}

-- whether two expressions are equal, where equal expressions or `differs` decide it
abbrev pub are_equal : SymHeap → Exp → Exp → Option Bool
are_equal heap e f = if same_exp e f then Some true else (if differs heap e f then Some false else None)

-- the case in which a fact is true. The fact of a test of pointers is missing too
abbrev pub where_test_is : Setting → Bool → Fact → ℕ → Pair → List Case
where_test_is setting true fact next pair = goes_on next (where_true setting fact pair)
where_test_is setting false fact next pair = goes_on next (where_true_in_state setting fact pair)

-- BRANCH ==: what decides; else the equal case with the equation, and the other with the disequality, the `yes` side first
abbrev pub branch_equal : Setting → Bool → Exp → Exp → ℕ → ℕ → Pair → Option Bool → List Case
branch_equal setting pointers e f on_true on_false pair (Some equal) = On (if equal then on_true else on_false) pair ∷ []
branch_equal setting pointers e f on_true on_false pair None =
    where_test_is setting pointers (Eq e f) on_true pair ++ where_test_is setting pointers (Ne e f) on_false pair

-- BRANCH !=: likewise
abbrev pub branch_unequal : Setting → Bool → Exp → Exp → ℕ → ℕ → Pair → Option Bool → List Case
branch_unequal setting pointers e f on_true on_false pair (Some equal) = On (if equal then on_false else on_true) pair ∷ []
branch_unequal setting pointers e f on_true on_false pair None =
    where_test_is setting pointers (Ne e f) on_true pair ++ where_test_is setting pointers (Eq e f) on_false pair

-- whether another test passes, where two constants or one same expression decide it
abbrev pub passes : TestOp → Exp → Exp → Option Bool
passes op (Const m) (Const n) = Some (test_passes op m n)
passes op e f = if same_exp e f then Some (test_passes op (pos 0) (pos 0)) else None

-- BRANCH, other tests: what decides; else both, `yes` first, with no fact
abbrev pub branch_other : ℕ → ℕ → Pair → Option Bool → List Case
branch_other on_true on_false pair (Some passed) = On (if passed then on_true else on_false) pair ∷ []
branch_other on_true on_false pair None = On on_true pair ∷ On on_false pair ∷ []

-- BRANCH, by the test
abbrev pub branch_on : Setting → TestOp → Bool → Exp → Exp → ℕ → ℕ → Pair → List Case
branch_on setting test.Eq pointers e f on_true on_false pair =
    branch_equal setting pointers e f on_true on_false pair (are_equal pair.state.heap e f)
branch_on setting test.Ne pointers e f on_true on_false pair =
    branch_unequal setting pointers e f on_true on_false pair (are_equal pair.state.heap e f)
branch_on setting op pointers e f on_true on_false pair = branch_other on_true on_false pair (passes op e f)

-- BRANCH
abbrev pub branch : Setting → TestOp → Bool → Operand → Operand → ℕ → ℕ → Pair → List Case
branch setting op pointers left right on_true on_false pair =
    branch_on setting op pointers (operand pair left) (operand pair right) on_true on_false pair
