use Rattle.std.proofs.Common.{◌≡◌, ◌-◌, length}
use Rattle.sym_matching.specs.NewVariables.{first_free}
use Rattle.sym_matching.proofs.renaming.new_variables.first_free.Given as goal

abbrev pub invariant-loop-turn : goal.invariant-loop-turn
invariant-loop-turn l = first_free (length l.used) l.first l.used ≡ first_free (length l.used - l.turn) l.x l.used
