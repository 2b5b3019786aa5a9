use Rattle.std.proofs.Common.{drop}
use Rattle.abstraction_laws.specs.Occurrences.{exps_of_facts}
use Rattle.sym_abstract.specs.Counted.{Adds, Times}
use Rattle.sym_abstract.proofs.occurrences.count_facts.Given as goal

-- whoever counts what is left has counted all
abbrev pub invariant-loop-fact : goal.invariant-loop-fact
invariant-loop-fact l = (last : Times) → Adds l.counts last (exps_of_facts (drop l.fact-index l.facts))
    → Adds l.initial.counts last (exps_of_facts l.facts)
