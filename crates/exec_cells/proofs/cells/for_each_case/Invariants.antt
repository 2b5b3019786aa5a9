use Rattle.std.proofs.Common.{◌≡◌}
use Rattle.exec_laws.specs.Cells.{for_each_case}
use Rattle.exec_cells.specs.Accesses.{use_of}
use Rattle.exec_cells.proofs.cells.for_each_case.Given as goal

abbrev pub invariant-loop-one : goal.invariant-loop-one
invariant-loop-one l = l.cases.items ≡ for_each_case (use_of l.access l.base l.next) l.base l.yielded
