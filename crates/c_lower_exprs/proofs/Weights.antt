-- How much of an expression is left to go through.
use Rattle.std.proofs.Common.{ℕ, ◌+◌}
use Rattle.c_grammar.specs.Trees.{Expr, Links, Args}

abbrev mutual
  pub weight : Expr → ℕ
  weight (Expr.Chain first others) = weight first + links_weight others + 3
  weight (Expr.Prefix place op inner) = weight inner + 2
  weight (Expr.Members base first others) = weight base + 1
  weight (Expr.Variable n) = 1
  weight (Expr.Number place value) = 1
  weight (Expr.Null place) = 1
  weight (Expr.Paren place inner) = weight inner + 1
  weight (Expr.Call callee args) = args_weight args + 2
  weight (Expr.Malloc place as_type allocated) = 1

  pub links_weight : Links → ℕ
  links_weight Links.NoLinks = 0
  links_weight (Links.Link op operand others) = weight operand + links_weight others + 1

  pub args_weight : Args → ℕ
  args_weight Args.NoArgs = 0
  args_weight (Args.Arg first others) = weight first + args_weight others + 1
