use Rattle.std.proofs.Common.{◌≡◌, ◌++◌, drop}
use Rattle.std.specs.Prelude.{filter, leb, map}
use Rattle.sym_matching.specs.Renaming.Apart.{number_of}
use Rattle.sym_matching.specs.Renaming.Calls.{others_flexible}
use Rattle.sym_matching.proofs.renaming.calls.others_flexible.Given as goal

abbrev pub invariant-loop-x : goal.invariant-loop-x
invariant-loop-x l = others_flexible l.apart l.params
    ≡ l.names.items ++ map (number_of l.apart) (filter (λ x. leb l.params x) (drop l.x-index l.apart.variables))
