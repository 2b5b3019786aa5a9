use Rattle.std.proofs.Common.{◌≡◌, ◌++◌, drop}
use Rattle.std.specs.Option.{is_none}
use Rattle.std.specs.Prelude.{filter}
use Rattle.sym_matching.specs.Renaming.Calls.{bound_in}
use Rattle.sym_matching.proofs.renaming.calls.unbound_ones.Given as goal

abbrev pub invariant-loop-x : goal.invariant-loop-x
invariant-loop-x l = filter (λ x. is_none (bound_in l.found.apart.now l.found.binding.now x)) l.list
    ≡ l.names.items ++ filter (λ x. is_none (bound_in l.found.apart.now l.found.binding.now x)) (drop l.x-index l.list)
