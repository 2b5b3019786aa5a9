use Rattle.std.proofs.Common.{◌≡◌, ◌++◌, drop}
use Rattle.std.specs.Prelude.{filter, leb}
use Rattle.sym_matching.proofs.renaming.coverings.existential_ones.Given as goal

abbrev pub invariant-loop-x : goal.invariant-loop-x
invariant-loop-x l = filter (λ x. leb 65536 x) l.list ≡ l.names.items ++ filter (λ x. leb 65536 x) (drop l.x-index l.list)
