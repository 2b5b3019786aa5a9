use Rattle.std.proofs.Common.{◌∙◌, ap}
use Rattle.shape_data.specs.declared.symbolic.SymState.{SymState}
use Rattle.sym_canon.specs.declared.parts.Pair.{Pair}
use Rattle.abstraction_laws.specs.Forgetting.{first_new}
use Rattle.sym_abstract.proofs.PairTurns.{existential-state}
use Rattle.sym_abstract.proofs.pairs.make_existential.Goals as goal

pub returns : goal.returns
returns c =
    let made : SymState → Pair = λ state. record { missing = c.args.pair.missing; state = state } in
    ap made (c.in_ok-state.ensures
    ∙ existential-state c.args.params c.args.counts.now c.args.pair.missing c.requires.counts
    (first_new c.args.pair.state) c.args.pair.state)
