use Rattle.std.proofs.Common.{Some, option_map, sym, subst}
use Rattle.std.specs.Prelude.{IfSome}
use Rattle.std.proofs.lemmas.Result.{IfOk-weaker}
use Rattle.c_tree.specs.Syntax.{simple_tree, for_step_tree}
use Rattle.c_lower_rules.specs.Statements.{for_step}
use Rattle.c_lower_rules.specs.Numbers.{SimpleHasIntNumbers}
use Rattle.c_lower_exprs.specs.Contexts.{on_line}
use Rattle.c_lower_stmts.specs.Laying.{EmitsWithin}
use Rattle.c_lower_stmts.specs.Standing.{state}
use Rattle.c_lower_stmts.proofs.heads.step.Goals as goal

pub returns-in-Some : goal.returns-in-Some
returns-in-Some c =
    IfOk-weaker c.stepped.result _ _ (λ laid is numbers line.
    let st = state (on_line c.args.context.now line) c.args.locals c.args.out.now in
    subst (λ o. EmitsWithin (for_step st (option_map for_step_tree o))
    c.args.context.now c.args.locals laid c.args.out.now c.stepped.new.out)
    (sym c.in-Some.is)
    (subst (λ s. EmitsWithin
    (for_step st (Some (simple_tree s))) c.args.context.now c.args.locals laid c.args.out.now c.stepped.new.out) c.deref.ensures
    (is (subst (λ s. SimpleHasIntNumbers (simple_tree s)) (sym c.deref.ensures)
    (subst (λ o. IfSome (option_map for_step_tree o) SimpleHasIntNumbers) c.in-Some.is numbers)) line))) c.stepped.ensures
