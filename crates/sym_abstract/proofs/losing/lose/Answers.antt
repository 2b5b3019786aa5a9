use Rattle.std.proofs.Common.{◌≡◌, ◌∙◌, ◌++◌}
use Rattle.std.proofs.lemmas.Result.{IfOk-weaker}
use Rattle.abstraction_laws.specs.Losing.{lose, without_disequalities}
use Rattle.abstraction_laws.specs.Occurrences.{exps_of_atoms}
use Rattle.sym_abstract.specs.Counted.{is_lost_by}
use Rattle.sym_abstract.proofs.CountedLaws.{without-same}
use Rattle.sym_abstract.proofs.losing.lose.Goals as goal

pub returns : goal.returns
returns c =
    IfOk-weaker c.without_lost.result (λ some. some.items ≡ without_disequalities (is_lost_by c.in_ok-counts.counts 65536) c.args.facts.now)
    (λ some. some.items ≡ lose c.args.locals.now c.args.atoms.now c.args.facts.now)
    (λ _ k. k ∙ without-same c.in_ok-counts.counts
    (c.args.locals.now ++ exps_of_atoms c.args.atoms.now) c.in_ok-counts.ensures 65536 c.args.facts.now) c.without_lost.ensures
