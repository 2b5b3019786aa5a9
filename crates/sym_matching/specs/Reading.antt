-- Reading the expressions of the wanted heap: through the binding, and through the heap's equations.
use Rattle.std.specs.Prelude.{ℕ, ℤ, Bool, true, false, ◌==◌, ◌&&◌, if◌then◌else◌, ltb, List, [], ◌∷◌}
use Rattle.std.specs.declared.option.Option.{Option}
use Rattle.std.specs.declared.option.Option.TheVariants.{None, Some}
use Rattle.shape_data.specs.declared.symbolic.Exp.{Exp}
use Rattle.shape_data.specs.declared.symbolic.Exp.TheVariants.{Var, Const}
use Rattle.shape_data.specs.declared.symbolic.Fact.{Fact}
use Rattle.shape_data.specs.Meaning.{value}
use Rattle.sym_parts.specs.Laws.Fresh.{is_one_of}
use Rattle.sym_pure.specs.Equations.{read_through}

-- the expression that a variable is bound to, if any
abbrev pub bound_to : List (ℕ × Exp) → ℕ → Option Exp
bound_to [] x = None
bound_to (bound ∷ binding) x = if bound.0 == x then Some bound.1 else bound_to binding x

-- what a variable is bound to; a variable that is not bound stands for itself
abbrev pub or_itself : ℕ → Option Exp → Exp
or_itself x None = Var x
or_itself x (Some e) = e

-- an expression of the wanted heap, read through the binding
abbrev pub bound_exp : List (ℕ × Exp) → Exp → Exp
bound_exp binding (Var x) = or_itself x (bound_to binding x)
bound_exp binding (Const n) = Const n

-- an expression of the wanted heap, read through the binding and the heap's equations
abbrev pub read : List Fact → List (ℕ × Exp) → Exp → Exp
read facts binding e = read_through facts (bound_exp binding e)

-- there is no expression
abbrev pub is_none : Option Exp → Bool
is_none None = true
is_none (Some e) = false

-- the expression is unbound: a flexible variable that is not bound yet. Any other is determined
abbrev pub is_unbound : List ℕ → List (ℕ × Exp) → Exp → Bool
is_unbound flexible binding (Var x) = is_one_of flexible x && is_none (bound_to binding x)
is_unbound flexible binding (Const n) = false

-- the expression is a logical variable, which are those below 65,536
abbrev pub is_logical_variable : Exp → Bool
is_logical_variable (Var x) = ltb x 65536
is_logical_variable (Const n) = false

-- the expression is a logical variable or a constant
abbrev pub is_logical : Exp → Bool
is_logical (Var x) = ltb x 65536
is_logical (Const n) = true

-- the values of the wanted heap's variables, where what they are bound to has its values under the assignment
abbrev pub through : List (ℕ × Exp) → (ℕ → ℤ) → ℕ → ℤ
through binding s x = value s (bound_exp binding (Var x))
