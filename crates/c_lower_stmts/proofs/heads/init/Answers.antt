use Rattle.std.proofs.Common.{sym, subst}
use Rattle.std.proofs.lemmas.Result.{IfOk-weaker}
use Rattle.c_tree.specs.Syntax.{init_tree, local_tree, simple_tree}
use Rattle.c_lower_rules.specs.Statements.{for_init, declaration, simple_from, from_place}
use Rattle.c_lower_rules.specs.Numbers.{InitHasIntNumbers, LocalHasIntNumbers, SimpleHasIntNumbers}
use Rattle.c_lower_exprs.specs.Contexts.{on_line}
use Rattle.c_lower_stmts.specs.Laying.{EmitsLowered}
use Rattle.c_lower_stmts.specs.Standing.{state}
use Rattle.c_lower_stmts.proofs.heads.init.Goals as goal

pub returns-in-Local-clause-laid : goal.returns-in-Local-clause-laid
returns-in-Local-clause-laid c =
    IfOk-weaker c.declared.result _ _ (λ laid is numbers line.
    let st = state (on_line c.args.context.now line) c.args.locals c.args.out.now in
    subst (λ i. EmitsLowered
    (for_init st c.args.place (init_tree i)) c.args.context.now c.args.locals c.declared.new.context laid c.args.out.now c.declared.new.out)
    (sym c.in-Local.is)
    (subst (λ l. EmitsLowered
    (declaration (local_tree l)
    (from_place st c.args.place)) c.args.context.now c.args.locals c.declared.new.context laid c.args.out.now c.declared.new.out)
    c.deref.ensures
    (is (subst (λ l. LocalHasIntNumbers (local_tree l)) (sym c.deref.ensures)
    (subst (λ i. InitHasIntNumbers (init_tree i)) c.in-Local.is numbers)) line))) c.declared.ensures.laid

pub returns-in-Simple-clause-laid : goal.returns-in-Simple-clause-laid
returns-in-Simple-clause-laid c =
    IfOk-weaker c.once.result _ _ (λ laid is numbers line.
    let st = state (on_line c.args.context.now line) c.args.locals c.args.out.now in
    subst (λ i. EmitsLowered
    (for_init st c.args.place (init_tree i)) c.args.context.now c.args.locals c.args.context.now laid c.args.out.now c.once.new.out)
    (sym c.in-Simple.is)
    (subst (λ s. EmitsLowered
    (simple_from st (from_place st c.args.place)
    (simple_tree s)) c.args.context.now c.args.locals c.args.context.now laid c.args.out.now c.once.new.out) c.deref-in-Simple.ensures
    (is (subst (λ s. SimpleHasIntNumbers (simple_tree s)) (sym c.deref-in-Simple.ensures)
    (subst (λ i. InitHasIntNumbers (init_tree i)) c.in-Simple.is numbers)) line))) c.once.ensures
