use Rattle.std.proofs.lemmas.Result.{IfOk-weaker}
use Rattle.sym_canon.specs.Placing.{exps_of}
use Rattle.sym_abstract.specs.Counted.{Adds}
use Rattle.sym_abstract.proofs.Adding.{adds-both}
use Rattle.sym_abstract.proofs.occurrences.count_atom.Goals as goal

pub returns-in_ok-count-in-Points : goal.returns-in_ok-count-in-Points
returns-in_ok-count-in-Points c =
    IfOk-weaker c.count_exps.result (λ _. Adds c.count.new.counts c.count_exps.new.counts c.as_slice.result.now)
    (λ _. Adds c.args.counts.now c.count_exps.new.counts (exps_of c.args.atom.now))
    (λ _ k. rw (c.in-Points.is, ← c.as_slice.ensures) (adds-both _ _ _ _ _ c.in_ok-count-in-Points.ensures k)) c.count_exps.ensures

pub returns-in_ok-count-in-Seg : goal.returns-in_ok-count-in-Seg
returns-in_ok-count-in-Seg c =
    IfOk-weaker c.count-in-Seg-2.result _ (λ _. Adds c.args.counts.now c.count-in-Seg-2.new.counts (exps_of c.args.atom.now))
    (λ _ k. rw c.in-Seg.is (adds-both _ _ _ _ _ c.in_ok-count-in-Seg.ensures k)) c.count-in-Seg-2.ensures
