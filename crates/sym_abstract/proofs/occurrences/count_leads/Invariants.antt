use Rattle.std.proofs.Common.{drop}
use Rattle.sym_canon.specs.Placing.{all_lead_to}
use Rattle.sym_abstract.specs.Counted.{Adds, Times}
use Rattle.sym_abstract.proofs.occurrences.count_leads.Given as goal

-- whoever counts what is left has counted all
abbrev pub invariant-loop-atom : goal.invariant-loop-atom
invariant-loop-atom l = (last : Times) → Adds l.counts last (all_lead_to (drop l.atom-index l.atoms))
    → Adds l.initial.counts last (all_lead_to l.atoms)
