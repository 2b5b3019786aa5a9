-- First rule of the normal form: equations are solved one after another, each read through those that are solved.
use Rattle.std.specs.Prelude.{ℕ, Bool, true, if◌then◌else◌, ◌==◌, ltb, List, [], ◌∷◌, ◌++◌}
use Rattle.std.specs.Ordering.{int_eq}
use Rattle.std.specs.declared.option.Option.{Option}
use Rattle.std.specs.declared.option.Option.TheVariants.{None, Some}
use Rattle.shape_data.specs.declared.symbolic.Exp.{Exp}
use Rattle.shape_data.specs.declared.symbolic.Exp.TheVariants.{Var, Const}
use Rattle.shape_data.specs.declared.symbolic.Fact.{Fact}
use Rattle.shape_data.specs.declared.symbolic.Fact.TheVariants.{Eq, Ne}
use Rattle.sym_pure.specs.declared.parts.Solved.{Solved}

-- the expression, with another in the place of a variable
abbrev pub instead : ℕ → Exp → Exp → Exp
instead variable by (Var x) = if x == variable then by else Var x
instead variable by (Const n) = Const n

-- the expression read through the solved equations, in the order in which they were solved
abbrev pub read : List Solved → Exp → Exp
read [] e = e
read (first ∷ later) e = read later (instead first.variable first.by e)

-- one solved equation more
abbrev pub with_solved : List Solved → ℕ → Exp → List Solved
with_solved solved variable by = solved ++ record { variable = variable; by = by } ∷ []

-- an equation whose sides are read: equal sides say nothing, and two unequal constants are a contradiction (None); else
-- it is solved for the variable, and of two variables for the greater
abbrev pub with_read : List Solved → Exp → Exp → Option (List Solved)
with_read solved (Const m) (Const n) = if int_eq m n then Some solved else None
with_read solved (Var x) (Const n) = Some (with_solved solved x (Const n))
with_read solved (Const n) (Var x) = Some (with_solved solved x (Const n))
with_read solved (Var x) (Var y) =
    if x == y then Some solved else (if ltb x y then Some (with_solved solved y (Var x)) else Some (with_solved solved x (Var y)))

-- an equation, read through those that are solved
abbrev pub with_equation : List Solved → Exp → Exp → Option (List Solved)
with_equation solved left right = with_read solved (read solved left) (read solved right)

-- goes on with what was solved, unless that was a contradiction
abbrev pub unless_clash : {A : Type 0} → (List Solved → Option A) → Option (List Solved) → Option A
unless_clash go_on None = None
unless_clash go_on (Some solved) = go_on solved

-- all equations among the facts, in their order; None is a contradiction
abbrev pub solve : List Fact → List Solved → Option (List Solved)
solve [] solved = Some solved
solve (Eq left right ∷ facts) solved = unless_clash (λ more. solve facts more) (with_equation solved left right)
solve (Ne left right ∷ facts) solved = solve facts solved

-- the equation of a variable stands before a fact: before those of greater variables, and before disequalities
abbrev pub stands_behind : ℕ → Fact → Bool
stands_behind variable (Ne left right) = true
stands_behind variable (Eq (Const n) right) = true
stands_behind variable (Eq (Var x) right) = ltb variable x

-- a solved equation among those that stand by variable
abbrev pub with_equation_of : ℕ → Exp → List Fact → List Fact
with_equation_of variable by [] = Eq (Var variable) by ∷ []
with_equation_of variable by (fact ∷ facts) =
    if stands_behind variable fact then Eq (Var variable) by ∷ fact ∷ facts else fact ∷ with_equation_of variable by facts

-- the solved equations that stay, which are those of logical variables (below 65,536): put in by variable among those that
-- `facts` has already, their right sides read through all
abbrev pub equations : List Solved → List Solved → List Fact → List Fact
equations all [] facts = facts
equations all (first ∷ later) facts =
    equations all later (if ltb first.variable 65536 then with_equation_of first.variable (read all (Var first.variable)) facts else facts)
