use Rattle.std.proofs.Common.{refl}
use Rattle.sym_canon.specs.Placing.{all_lead_to, leads_to}
use Rattle.sym_abstract.proofs.Adding.{counted-item}
use Rattle.sym_abstract.proofs.occurrences.count_leads.Goals as goal

pub loop-atom-preserved : goal.loop-atom-preserved
loop-atom-preserved c =
    counted-item leads_to all_lead_to
    (λ x xs. refl) c.args.counts.now c.loop-atom.counts c.count_lead.new.counts c.args.atoms.now c.loop-atom.atom-index c.atom-item.result
    c.loop-atom-test.true c.atom-item.is c.loop-atom.invariant c.in_ok-count_lead.ensures
