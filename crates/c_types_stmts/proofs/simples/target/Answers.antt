use Rattle.c_types_stmts.proofs.Adding.{then}
use Rattle.c_types_stmts.proofs.simples.target.Goals as goal

pub returns-clause-found : goal.returns-clause-found
returns-clause-found c = then c.in_ok-kind.ensures.found (rw (c.is_target.ensures, c.place_of_expr.ensures) at c.unless.ensures)
