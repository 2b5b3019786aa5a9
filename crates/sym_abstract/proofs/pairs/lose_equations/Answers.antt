use Rattle.std.proofs.Common.{◌≡◌, ◌∙◌, ap, List, filter, not}
use Rattle.shape_data.specs.declared.symbolic.Fact.{Fact}
use Rattle.sym_canon.specs.declared.parts.Pair.{Pair}
use Rattle.sym_abstract.specs.Counted.{is_lost_equation_by}
use Rattle.sym_abstract.proofs.CountedLaws.{equations-same}
use Rattle.sym_abstract.proofs.pairs.lose_equations.Goals as goal

pub returns : goal.returns
returns c =
    let made : List Fact
    → Pair =
    λ facts. record {
      missing = c.args.pair.missing;
      state = record { locals = c.args.pair.state.locals; heap = record { pure = facts; spatial = c.args.pair.state.heap.spatial } };
    } in
    let some : c.in_ok-pure.pure.items
    ≡ filter (λ fact. not (is_lost_equation_by c.args.params c.args.counts.now fact)) c.args.pair.state.heap.pure =
    rw c.as_slice.ensures at c.in_ok-pure.ensures in
    ap made (c.from_vec.ensures
    ∙ (some ∙ equations-same c.args.params c.args.counts.now c.args.pair.missing c.requires.counts c.args.pair.state.heap.pure))
