-- Tests of expressions and of lists of them.
use Rattle.std.specs.Prelude.{Bool, false, ◌==◌, ◌&&◌, ◌||◌, List, [], ◌∷◌}
use Rattle.std.specs.Ordering.{int_eq}
use Rattle.shape_data.specs.declared.symbolic.Exp.{Exp}
use Rattle.shape_data.specs.declared.symbolic.Exp.TheVariants.{Var, Const}

-- the two are the same variable, or the same constant
abbrev pub same_exp : Exp → Exp → Bool
same_exp (Var x) (Var y) = x == y
same_exp (Const m) (Const n) = int_eq m n
same_exp _ _ = false

-- the expression is in the list
abbrev pub is_among : Exp → List Exp → Bool
is_among e [] = false
is_among e (f ∷ fs) = same_exp e f || is_among e fs

-- the two expressions are in the list, at two places
abbrev pub are_two : Exp → Exp → List Exp → Bool
are_two e f [] = false
are_two e f (g ∷ gs) = (same_exp e g && is_among f gs) || ((same_exp f g && is_among e gs) || are_two e f gs)

-- an expression is in the list twice
abbrev pub has_double : List Exp → Bool
has_double [] = false
has_double (e ∷ es) = is_among e es || has_double es
