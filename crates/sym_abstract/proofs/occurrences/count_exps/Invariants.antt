use Rattle.std.proofs.Common.{drop}
use Rattle.sym_abstract.specs.Counted.{Adds, Times}
use Rattle.sym_abstract.proofs.occurrences.count_exps.Given as goal

-- whoever counts what is left has counted all
abbrev pub invariant-loop-e : goal.invariant-loop-e
invariant-loop-e l = (last : Times) → Adds l.counts last (drop l.e-index l.list) → Adds l.initial.counts last (l.list)
