use Rattle.std.proofs.lemmas.Result.{IfOk-weaker}
use Rattle.sym_canon.specs.Numbering.{sides}
use Rattle.sym_abstract.specs.Counted.{Adds}
use Rattle.sym_abstract.proofs.Adding.{adds-both}
use Rattle.sym_abstract.proofs.occurrences.count_fact.Goals as goal

pub returns-in_ok-count-in-Eq : goal.returns-in_ok-count-in-Eq
returns-in_ok-count-in-Eq c =
    IfOk-weaker c.count-in-Eq.result _ (λ _. Adds c.args.counts.now c.count-in-Eq.new.counts (sides c.args.fact))
    (λ _ k. rw c.in-Eq.is (adds-both _ _ _ _ _ c.in_ok-count-in-Eq.ensures k)) c.count-in-Eq.ensures

pub returns-in_ok-count-in-Ne : goal.returns-in_ok-count-in-Ne
returns-in_ok-count-in-Ne c =
    IfOk-weaker c.count-in-Ne-2.result _ (λ _. Adds c.args.counts.now c.count-in-Ne-2.new.counts (sides c.args.fact))
    (λ _ k. rw c.in-Ne.is (adds-both _ _ _ _ _ c.in_ok-count-in-Ne.ensures k)) c.count-in-Ne-2.ensures
