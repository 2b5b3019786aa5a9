use Rattle.std.proofs.Common.{Option, option_map, sym, ap}
use Rattle.c_types_rules.specs.Statements.{returned}
use Rattle.c_tree.specs.declared.exprs.Expr.{Expr}
use Rattle.c_tree.specs.Syntax.{expr_tree}
use Rattle.c_types_names.specs.Seen.{kind_seen}
use Rattle.c_types_stmts.proofs.Adding.{then, same}
use Rattle.c_types_stmts.proofs.stmts.returned.Goals as goal

pub returns-in_ok-kind-in-Some : goal.returns-in_ok-kind-in-Some
returns-in_ok-kind-in-Some c =
    same (then c.in_ok-kind-in-Some.ensures.found (rw c.may_return-may.ensures at c.unless-in-Some.ensures)) _
    (ap (λ (v : Option Expr). returned c.args.env.now (kind_seen c.args.answer) c.args.place (option_map expr_tree v)) (sym c.in-Some.is))
