use Rattle.c_parse_exprs.proofs.ExprSteps.{below_is}
use Rattle.c_parse.proofs.simple.read_base.Goals as goal

pub returns-clause-value : goal.returns-clause-value
returns-clause-value c = rw (below_is c.args.levels, ← c.level_below.ensures) c.read_closed.ensures.value
