-- As many arguments as parameters.
use Rattle.std.proofs.Common.{◌≡◌, ℕ, suc, true, ◌==◌, List, [], ◌∷◌, length, map, refl, ap, ◌∙◌, arith}
use Rattle.std.proofs.lemmas.List.{length-map}
use Rattle.c_grammar.specs.Trees.{Expr, Args}
use Rattle.c_tree.specs.declared.exprs.Expr.{Expr as Argument}
use Rattle.c_types_rules.specs.Types.{Kind}
use Rattle.c_types_rules.specs.Tables.{Tables, param_kind, param_kinds}
use Rattle.c_types_rules.specs.Scopes.{Env}
use Rattle.c_types_rules.specs.Expressions.{same_number, all_fit}
use Rattle.c_tree.specs.declared.names.Params.{Params}
use Rattle.c_tree.specs.Params.{param_items}
use Rattle.c_tree.specs.Syntax.{param_tree, params_tree, expr_tree, args_of, args_tree}
use Rattle.c_types_names.proofs.ParamsInTurn.{each_kind}

step : (m n : ℕ) → (m == n) ≡ (suc m == suc n)
step m n = grind (arith)

by_length : (kinds : List Kind) (args : List Expr) → same_number kinds (args_of args) ≡ (length kinds == length args)
by_length [] [] = refl
by_length [] (arg ∷ args) = grind (arith)
by_length (kind ∷ kinds) [] = grind (arith)
by_length (kind ∷ kinds) (arg ∷ args) = by_length kinds args ∙ step (length kinds) (length args)

pub by_number : (kinds : List Kind) (args : List Argument) → same_number kinds (args_tree args) ≡ (length kinds == length args)
by_number kinds args = by_length kinds (map expr_tree args) ∙ ap (λ n. length kinds == n) (length-map args expr_tree)

pub none_fit : (env : Env) (kinds : List Kind) → all_fit env kinds Args.NoArgs ≡ true
none_fit env [] = refl
none_fit env (kind ∷ kinds) = refl

pub as_many : (tables : Tables) (params : Params) → length (param_kinds tables (params_tree params)) ≡ length (param_items params)
as_many tables params =
    ap length (each_kind tables params)
    ∙ length-map (map param_tree (param_items params)) (param_kind tables)
    ∙ length-map (param_items params) param_tree

pub ruleset arguments = (by_number, none_fit, as_many)
