use Rattle.std.proofs.Common.{Option, option_map, sym, ap}
use Rattle.c_types_rules.specs.Statements.{maybe_test}
use Rattle.c_tree.specs.declared.exprs.Expr.{Expr}
use Rattle.c_tree.specs.Syntax.{expr_tree}
use Rattle.c_types_stmts.proofs.Adding.{nothing, same}
use Rattle.c_types_stmts.proofs.stmts.maybe_condition.Goals as goal

pub returns-in-None : goal.returns-in-None
returns-in-None c =
    same (nothing c.args.found.now) _ (ap (λ (v : Option Expr). maybe_test c.args.env.now (option_map expr_tree v)) (sym c.in-None.is))
