use Rattle.std.proofs.Common.{sym, ap}
use Rattle.c_types_rules.specs.Statements.{simple}
use Rattle.c_tree.specs.declared.stmts.Simple.{Simple}
use Rattle.c_tree.specs.Syntax.{simple_tree}
use Rattle.c_types_stmts.proofs.Adding.{then, same}
use Rattle.c_types_stmts.proofs.simples.simple.Goals as goal

pub returns-in_ok-kind-in-Step : goal.returns-in_ok-kind-in-Step
returns-in_ok-kind-in-Step c =
    same (then c.in_ok-kind-in-Step.ensures.found
    (rw (c.may_be_int.ensures, c.in_ok-kind-in-Step.ensures.kind, c.place_of_expr.ensures) at c.unless.ensures)) _
    (ap (λ (v : Simple). simple c.args.env.now (simple_tree v)) (sym c.in-Step.is))

pub returns-in_ok-kind-in-Free : goal.returns-in_ok-kind-in-Free
returns-in_ok-kind-in-Free c =
    same (then c.in_ok-kind-in-Free.ensures.found (rw c.may_be_freed.ensures at c.unless-in-Free.ensures)) _
    (ap (λ (v : Simple). simple c.args.env.now (simple_tree v)) (sym c.in-Free.is))
