use Rattle.solve_laws.proofs.LimitsLemmas.Executed.{execution_keeps_logical}
use Rattle.solve_laws.proofs.limits.laws.execution_keeps_logical.Goals as goal

pub returns : goal.returns
returns c = execution_keeps_logical
