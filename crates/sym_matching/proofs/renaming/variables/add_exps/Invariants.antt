use Rattle.std.proofs.Common.{◌≡◌, drop}
use Rattle.sym_matching.specs.Variables.{with_exps}
use Rattle.sym_matching.proofs.renaming.variables.add_exps.Given as goal

abbrev pub invariant-loop-e : goal.invariant-loop-e
invariant-loop-e l = with_exps l.initial.names.items l.list ≡ with_exps l.names.items (drop l.e-index l.list)
