use Rattle.std.proofs.lemmas.Result.{IfOk-weaker}
use Rattle.std.proofs.Common.{subst}
use Rattle.c_tree.specs.Syntax.{simple_tree}
use Rattle.c_lower_rules.specs.Statements.{simple_from, from_place}
use Rattle.c_lower_exprs.specs.Contexts.{on_line}
use Rattle.c_lower_stmts.specs.Laying.{EmitsLowered}
use Rattle.c_lower_stmts.specs.Standing.{state}
use Rattle.c_lower_stmts.proofs.Branching.{without_names}
use Rattle.c_lower_stmts.proofs.heads.stepped.Goals as goal

pub returns : goal.returns
returns c =
    IfOk-weaker c.once.result _ _ (λ laid is numbers line.
    let st = state (on_line c.args.context.now line) c.args.locals c.args.out.now in
    without_names _ c.args.context.now c.args.locals c.args.context.now laid c.args.out.now c.once.new.out
    (subst (λ p. EmitsLowered
    (simple_from st (from_place st p)
    (simple_tree c.args.one.now)) c.args.context.now c.args.locals
    c.args.context.now laid c.args.out.now c.once.new.out) c.place_of_simple.ensures
    (is numbers line))) c.once.ensures
