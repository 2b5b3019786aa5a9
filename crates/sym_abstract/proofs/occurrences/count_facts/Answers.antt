use Rattle.std.proofs.Common.{refl}
use Rattle.sym_canon.specs.Numbering.{sides}
use Rattle.abstraction_laws.specs.Occurrences.{exps_of_facts}
use Rattle.sym_abstract.proofs.Adding.{counted-place}
use Rattle.sym_abstract.proofs.occurrences.count_facts.Goals as goal

pub loop-fact-preserved : goal.loop-fact-preserved
loop-fact-preserved c =
    counted-place sides exps_of_facts
    (λ x xs. refl) c.args.counts.now c.loop-fact.counts c.count_fact.new.counts c.args.facts.now c.loop-fact.fact-index _
    c.loop-fact-test.true c.loop-fact.invariant c.in_ok-count_fact.ensures
