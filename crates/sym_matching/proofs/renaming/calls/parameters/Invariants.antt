use Rattle.std.proofs.Common.{◌≡◌, ◌-◌, ◌++◌}
use Rattle.sym_matching.specs.Renaming.Calls.{variables_from}
use Rattle.sym_matching.proofs.renaming.calls.parameters.Given as goal

abbrev pub invariant-loop-x : goal.invariant-loop-x
invariant-loop-x l = variables_from 0 l.count ≡ l.names.items ++ variables_from l.x (l.count - l.x)
