-- Reading through the equations that stand among facts, as those of a form do.
use Rattle.std.specs.Prelude.{ℕ, ◌==◌, if◌then◌else◌, List, [], ◌∷◌}
use Rattle.shape_data.specs.declared.symbolic.Exp.{Exp}
use Rattle.shape_data.specs.declared.symbolic.Exp.TheVariants.{Var, Const}
use Rattle.shape_data.specs.declared.symbolic.Fact.{Fact}
use Rattle.shape_data.specs.declared.symbolic.Fact.TheVariants.{Eq, Ne}

-- what the facts' equations solve a variable for
abbrev pub solved : List Fact → ℕ → Exp
solved [] x = Var x
solved (Eq (Var y) right ∷ facts) x = if y == x then right else solved facts x
solved (Eq (Const n) right ∷ facts) x = solved facts x
solved (Ne left right ∷ facts) x = solved facts x

-- an expression, read through the facts' equations
abbrev pub read_through : List Fact → Exp → Exp
read_through facts (Var x) = solved facts x
read_through facts (Const n) = Const n
