-- The types of all expressions of a text, in the order of their first tokens; of those that begin at one token the inner one
-- comes first. Each front of a chain of operators, or of members, is an expression.
use Rattle.std.specs.Prelude.{List, [], ◌∷◌, ◌++◌}
use Rattle.c_grammar.specs.Trees.{Name, Expr, Links, Args}
use Rattle.c_types_rules.specs.Types.{Kind}
use Rattle.c_types_rules.specs.Tables.{Tables}
use Rattle.c_types_rules.specs.Scopes.{Env}
use Rattle.c_types_rules.specs.Expressions.{kind_of, kind_of_binary, kind_of_member}

-- the type behind each operand of a chain but the first
abbrev pub link_kinds : Env → Kind → Links → List Kind
link_kinds env kind Links.NoLinks = []
link_kinds env kind (Links.Link op operand others) =
    kind_of_binary op kind (kind_of env operand) ∷ link_kinds env (kind_of_binary op kind (kind_of env operand)) others

-- the type behind each `->`
abbrev pub member_kinds : Tables → Kind → List Name → List Kind
member_kinds tables kind [] = []
member_kinds tables kind (first ∷ others) = kind_of_member tables kind first ∷ member_kinds tables (kind_of_member tables kind first) others

-- of the expressions that begin at the first token
abbrev pub first_kinds : Env → Expr → List Kind
first_kinds env (Expr.Chain first others) = first_kinds env first ++ link_kinds env (kind_of env first) others
first_kinds env (Expr.Members base first others) = first_kinds env base ++ member_kinds env.tables (kind_of env base) (first ∷ others)
first_kinds env other = kind_of env other ∷ []

abbrev mutual
  -- of those that begin behind it
  pub later_kinds : Env → Expr → List Kind
  later_kinds env (Expr.Chain first others) = later_kinds env first ++ operand_kinds env others
  later_kinds env (Expr.Prefix place op inner) = first_kinds env inner ++ later_kinds env inner
  later_kinds env (Expr.Members base first others) = later_kinds env base
  later_kinds env (Expr.Variable n) = []
  later_kinds env (Expr.Number place value) = []
  later_kinds env (Expr.Null place) = []
  later_kinds env (Expr.Paren place inner) = first_kinds env inner ++ later_kinds env inner
  later_kinds env (Expr.Call callee args) = arg_kinds env args
  later_kinds env (Expr.Malloc place as_type allocated) = []

  pub operand_kinds : Env → Links → List Kind
  operand_kinds env Links.NoLinks = []
  operand_kinds env (Links.Link op operand others) = first_kinds env operand ++ later_kinds env operand ++ operand_kinds env others

  pub arg_kinds : Env → Args → List Kind
  arg_kinds env Args.NoArgs = []
  arg_kinds env (Args.Arg first others) = first_kinds env first ++ later_kinds env first ++ arg_kinds env others

-- of all expressions in an expression
abbrev pub kinds : Env → Expr → List Kind
kinds env e = first_kinds env e ++ later_kinds env e
