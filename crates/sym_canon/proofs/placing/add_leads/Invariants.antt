use Rattle.std.proofs.Common.{◌≡◌, ◌++◌, drop}
use Rattle.sym_canon.specs.Placing.{all_lead_to}
use Rattle.sym_canon.proofs.placing.add_leads.Given as goal

abbrev pub invariant-loop-atom : goal.invariant-loop-atom
invariant-loop-atom l = l.initial.queue.items ++ all_lead_to l.atoms ≡ l.queue.items ++ all_lead_to (drop l.atom-index l.atoms)
