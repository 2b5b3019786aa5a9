use Rattle.std.proofs.Common.{◌≡◌, ◌++◌, ◌-◌}
use Rattle.sym_canon.specs.Placing.{params_from}
use Rattle.sym_canon.proofs.placing.first_queue.Given as goal

abbrev pub invariant-loop-param : goal.invariant-loop-param
invariant-loop-param l = params_from 0 l.params ≡ l.queue.items ++ params_from l.param (l.params - l.param)
