use Rattle.solve_laws.proofs.LimitsLemmas.Executed.{exits_keep_logical, nodes_keep_logical}
use Rattle.solve_laws.proofs.limits.laws.abstraction_keeps_logical.Goals as goal

pub returns-clause-nodes : goal.returns-clause-nodes
returns-clause-nodes c = nodes_keep_logical

pub returns-clause-exits : goal.returns-clause-exits
returns-clause-exits c = exits_keep_logical
