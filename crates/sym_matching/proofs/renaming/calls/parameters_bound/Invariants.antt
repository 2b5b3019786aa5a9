use Rattle.std.proofs.Common.{◌≡◌, ◌++◌, drop}
use Rattle.sym_matching.specs.Renaming.Calls.{parameters_bound}
use Rattle.sym_matching.proofs.renaming.calls.parameters_bound.Given as goal

abbrev pub invariant-loop-arg : goal.invariant-loop-arg
invariant-loop-arg l = (parameters_bound l.apart 0 l.args ≡ l.bound.items ++ parameters_bound l.apart l.param (drop l.arg-index l.args))
    × (l.param ≡ l.arg-index)
