use Rattle.c_tree.specs.Syntax.{expr_tree}
use Rattle.c_types_stmts.proofs.Adding.{then}
use Rattle.c_types_stmts.proofs.simples.assigned.Goals as goal

pub returns : goal.returns
returns c =
    let takes = c.may_assign-takes.ensures (expr_tree c.args.left.now) c.in_ok-wanted.ensures.kind in
    then c.in_ok-wanted.ensures.found (then c.in_ok-kind.ensures.found (rw (takes, c.place_of_expr.ensures) at c.unless.ensures))
