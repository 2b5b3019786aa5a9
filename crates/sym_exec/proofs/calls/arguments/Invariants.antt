use Rattle.std.proofs.Common.{◌≡◌, ◌++◌, drop, map}
use Rattle.exec_laws.specs.Values.{operand}
use Rattle.sym_exec.proofs.calls.arguments.Given as goal

abbrev pub invariant-loop-arg : goal.invariant-loop-arg
invariant-loop-arg l = map (operand l.pair) l.args ≡ l.all.items ++ map (operand l.pair) (drop l.arg-index l.args)
