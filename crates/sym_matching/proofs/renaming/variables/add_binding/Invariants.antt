use Rattle.std.proofs.Common.{◌≡◌, drop}
use Rattle.sym_matching.specs.Variables.{with_binding}
use Rattle.sym_matching.proofs.renaming.variables.add_binding.Given as goal

abbrev pub invariant-loop-bound : goal.invariant-loop-bound
invariant-loop-bound l = with_binding l.initial.names.items l.binding ≡ with_binding l.names.items (drop l.bound-index l.binding)
