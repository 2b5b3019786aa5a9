use Rattle.std.proofs.Common.{sym, ap}
use Rattle.c_types_rules.specs.Statements.{init}
use Rattle.c_tree.specs.declared.stmts.ForInit.{ForInit}
use Rattle.c_tree.specs.Syntax.{init_tree}
use Rattle.c_types_stmts.proofs.Adding.{nothing, same}
use Rattle.c_types_stmts.proofs.locals.init.Goals as goal

pub returns-in-Empty-clause-found : goal.returns-in-Empty-clause-found
returns-in-Empty-clause-found c =
    same (nothing c.args.found.now) _ (ap (λ (v : ForInit). init c.args.env.now (init_tree v)) (sym c.in-Empty.is))
