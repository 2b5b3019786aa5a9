use Rattle.std.proofs.Common.{◌≡◌, ◌++◌, drop}
use Rattle.solve_laws.specs.Tables.{own_with}
use Rattle.comp_solve.proofs.tables.own_with.Given as goal

abbrev pub invariant-loop-place : goal.invariant-loop-place
invariant-loop-place l = l.callees ++ own_with (drop l.place l.flows) (drop l.place l.specs) ≡ own_with l.flows l.specs
