use Rattle.std.proofs.Common.{refl, [], ◌∷◌}
use Rattle.sym_abstract.proofs.Adding.{counted-place}
use Rattle.sym_abstract.proofs.occurrences.count_exps.Goals as goal

pub loop-e-preserved : goal.loop-e-preserved
loop-e-preserved c =
    counted-place (λ e. e ∷ []) (λ es. es)
    (λ x xs. refl) c.args.counts.now c.loop-e.counts c.count.new.counts c.args.list.now c.loop-e.e-index _ c.loop-e-test.true
    c.loop-e.invariant c.in_ok-count.ensures
