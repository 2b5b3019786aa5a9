use Rattle.std.proofs.Common.{◌≡◌, ◌+◌, ◌-◌, ◌++◌, map}
use Rattle.shape_data.specs.declared.symbolic.Exp.TheVariants.{Var}
use Rattle.sym_matching.specs.Renaming.Calls.{variables_from}
use Rattle.exec_cells.proofs.exposing.variables.Given as goal

abbrev pub invariant-loop-turn : goal.invariant-loop-turn
invariant-loop-turn l = (map Var (variables_from l.first l.count) ≡ l.all ++ map Var (variables_from l.x (l.count - l.turn)))
    × (l.x ≡ l.first + l.turn)
