use Rattle.std.proofs.Common.{Option, option_map, sym, ap}
use Rattle.c_types_rules.specs.Statements.{initializer}
use Rattle.c_tree.specs.declared.exprs.Expr.{Expr}
use Rattle.c_tree.specs.Syntax.{expr_tree}
use Rattle.c_types_names.specs.Seen.{kind_seen}
use Rattle.c_types_stmts.proofs.Adding.{nothing, then, same}
use Rattle.c_types_stmts.proofs.locals.initializer.Goals as goal

pub returns-in-None : goal.returns-in-None
returns-in-None c =
    same (nothing c.args.found.now) _
    (ap (λ (v : Option Expr). initializer c.args.env.now c.args.place (kind_seen c.args.wanted) (option_map expr_tree v))
    (sym c.in-None.is))

pub returns-in_ok-kind-in-Some : goal.returns-in_ok-kind-in-Some
returns-in_ok-kind-in-Some c =
    same (then c.in_ok-kind-in-Some.ensures.found (rw c.fits_as.ensures at c.unless.ensures)) _
    (ap (λ (v : Option Expr). initializer c.args.env.now c.args.place (kind_seen c.args.wanted) (option_map expr_tree v))
    (sym c.in-Some.is))
