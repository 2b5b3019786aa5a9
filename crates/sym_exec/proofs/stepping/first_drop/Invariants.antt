use Rattle.std.proofs.Common.{◌≡◌, drop}
use Rattle.exec_laws.specs.Execution.{first_drop}
use Rattle.sym_exec.proofs.stepping.first_drop.Given as goal

abbrev pub invariant-loop-case : goal.invariant-loop-case
invariant-loop-case l = first_drop l.cases ≡ first_drop (drop l.case-index l.cases)
