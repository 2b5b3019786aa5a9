use Rattle.std.proofs.Common.{◌≡◌}
use Rattle.std.specs.List.{filter_map}
use Rattle.exec_laws.specs.Execution.{exit_of, next_of}
use Rattle.sym_exec.proofs.stepping.successors.Given as goal

abbrev pub invariant-loop-case : goal.invariant-loop-case
invariant-loop-case l = (l.next ≡ filter_map next_of l.yielded) × (l.exits ≡ filter_map exit_of l.yielded)
