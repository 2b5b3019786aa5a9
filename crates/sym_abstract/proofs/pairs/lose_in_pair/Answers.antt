use Rattle.std.proofs.Common.{◌≡◌, ◌∙◌, ap₂, List}
use Rattle.shape_data.specs.declared.symbolic.Fact.{Fact}
use Rattle.sym_canon.specs.declared.parts.Pair.{Pair}
use Rattle.abstraction_laws.specs.Losing.{without_disequalities}
use Rattle.abstraction_laws.specs.Pairs.{exps_beside_facts}
use Rattle.sym_abstract.specs.Counted.{is_lost_by}
use Rattle.sym_abstract.proofs.CountedLaws.{without-same}
use Rattle.sym_abstract.proofs.pairs.lose_in_pair.Goals as goal

pub returns : goal.returns
returns c =
    let made : List Fact → List Fact → Pair = λ missing facts. record {
      missing = record { pure = missing; spatial = c.args.pair.missing.spatial };
      state = record { locals = c.args.pair.state.locals; heap = record { pure = facts; spatial = c.args.pair.state.heap.spatial } };
    } in
    let same = without-same c.in_ok-counts.counts (exps_beside_facts c.args.pair) c.in_ok-counts.ensures c.args.params in
    let one : c.in_ok-missing_pure.missing_pure.items
    ≡ without_disequalities (is_lost_by c.in_ok-counts.counts c.args.params) c.args.pair.missing.pure =
    rw c.as_slice.ensures at c.in_ok-missing_pure.ensures in
    let two : c.in_ok-state_pure.state_pure.items
    ≡ without_disequalities (is_lost_by c.in_ok-counts.counts c.args.params) c.args.pair.state.heap.pure =
    rw c.as_slice-2.ensures at c.in_ok-state_pure.ensures in
    ap₂ made (c.from_vec.ensures ∙ (one ∙ same c.args.pair.missing.pure)) (c.from_vec-2.ensures ∙ (two ∙ same c.args.pair.state.heap.pure))
