use Rattle.c_types_stmts.proofs.Adding.{then}
use Rattle.c_types_stmts.proofs.stmts.condition.Goals as goal

pub returns : goal.returns
returns c =
    then c.in_ok-kind.ensures.found
    (rw (c.gives_scalar.ensures, c.given_as-given.ensures, c.place_of_expr.ensures) at c.unless.ensures)
