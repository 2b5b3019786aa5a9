-- The normal form of a pair of a missing heap and a state, in which logical variables mean the same.
use Rattle.std.specs.Prelude.{ℕ, Bool, false, not, leb, filter}
use Rattle.std.specs.declared.option.Option.{Option}
use Rattle.shape_data.specs.declared.symbolic.Exp.{Exp}
use Rattle.shape_data.specs.declared.symbolic.Exp.TheVariants.{Var, Const}
use Rattle.shape_data.specs.declared.symbolic.Fact.{Fact}
use Rattle.shape_data.specs.declared.symbolic.Fact.TheVariants.{Eq, Ne}
use Rattle.shape_data.specs.declared.symbolic.SymHeap.{SymHeap}
use Rattle.shape_data.specs.declared.symbolic.SymState.{SymState}
use Rattle.sym_parts.specs.Laws.Mapped.{on_state}
use Rattle.sym_pure.specs.Equations.{read_through}
use Rattle.sym_pure.specs.Normal.{normal}
use Rattle.sym_canon.specs.declared.parts.Pair.{Pair}
use Rattle.sym_canon.specs.Canonical.{without_locals}
use Rattle.sym_forms.specs.Forms.{of_form, of_form_some}

-- the expression is a variable that is no parameter
abbrev pub is_no_param : ℕ → Exp → Bool
is_no_param params (Var x) = leb params x
is_no_param params (Const n) = false

-- the fact is an equation of a variable that is no parameter
abbrev pub is_further_equation : ℕ → Fact → Bool
is_further_equation params (Eq left right) = is_no_param params left
is_further_equation params (Ne left right) = false

-- the heap without facts that pass the test
abbrev pub without_facts : (Fact → Bool) → SymHeap → SymHeap
without_facts test heap = record { pure = filter (λ fact. not (test fact)) heap.pure; spatial = heap.spatial }

-- the missing heap keeps the equations of parameters alone
abbrev pub pair_of : ℕ → SymHeap → SymState → Pair
pair_of params missing state = record { missing = without_facts (is_further_equation params) missing; state = state }

-- the missing heap being in its form, the state is read through its equations and brought to its own
abbrev pub with_missing : ℕ → SymState → SymHeap → Option Pair
with_missing params state missing = of_form (pair_of params missing) (normal (on_state (read_through missing.pure) state))

-- the normal form of a pair of a procedure with so many parameters: first the missing heap's, then the state's. There is
-- none where one of the two is a contradiction
abbrev pub pair_form : ℕ → Pair → Option Pair
pair_form params pair = of_form_some (λ missing. with_missing params pair.state missing.heap) (normal (without_locals pair.missing))
