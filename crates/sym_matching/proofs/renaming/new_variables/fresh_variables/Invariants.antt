use Rattle.std.proofs.Common.{◌≡◌, ◌-◌, ◌++◌}
use Rattle.sym_matching.specs.NewVariables.{HasRoom, fresh_variables}
use Rattle.sym_matching.proofs.renaming.new_variables.fresh_variables.Given as goal

abbrev pub invariant-loop-turn : goal.invariant-loop-turn
invariant-loop-turn l = (fresh_variables l.count l.initial.used ≡ l.names.items ++ fresh_variables (l.count - l.turn) l.used)
    × (l.used ≡ l.initial.used ++ l.names.items) × HasRoom (l.count - l.turn) l.used
