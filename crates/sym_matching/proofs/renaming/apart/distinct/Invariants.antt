use Rattle.std.proofs.Common.{◌≡◌, drop}
use Rattle.sym_matching.specs.NewVariables.{distinct, distinct_behind}
use Rattle.sym_matching.proofs.renaming.apart.distinct.Given as goal

abbrev pub invariant-loop-x : goal.invariant-loop-x
invariant-loop-x l = distinct l.list ≡ distinct_behind l.names.items (drop l.x-index l.list)
