use Rattle.std.proofs.Common.{◌<◌, ◌∙◌, ap, length, subst, sym}
use Rattle.std.proofs.lemmas.Bool.{not-true}
use Rattle.sym_canon.specs.declared.parts.Pair.{Pair}
use Rattle.abstraction_laws.specs.Pairs.{join_pair}
use Rattle.abstraction_laws.specs.Rooms.{HaveFewFields}
use Rattle.abstraction_laws.proofs.DoneLaws.{join_pair-falls, join_pair-goes_on, join_pair-stays}
use Rattle.abstraction_laws.proofs.FewLaws.{pair-few}
use Rattle.sym_abstract.proofs.PairTurns.{from_not}
use Rattle.sym_abstract.proofs.pairs.join_pair.Goals as goal

pub returns-then-not-turn : goal.returns-then-not-turn
returns-then-not-turn c =
    c.in_ok-turn.ensures.pair
    ∙ (sym (join_pair-stays c.args.params c.loop-turn.pair
    (sym c.in_ok-turn.ensures.joined ∙ not-true c.in_ok-turn.turn.joined c.if-not-turn.true)) ∙ c.loop-turn.invariant.same)

pub loop-turn-smaller : goal.loop-turn-smaller
loop-turn-smaller c =
    subst (λ (p : Pair). length p.missing.spatial < length c.loop-turn.pair.missing.spatial) (sym c.in_ok-turn.ensures.pair)
    (join_pair-falls c.args.params c.loop-turn.pair
    (sym c.in_ok-turn.ensures.joined ∙ from_not c.in_ok-turn.turn.joined c.if-not-turn.false))

pub loop-turn-preserved : goal.loop-turn-preserved
loop-turn-preserved c =
    let few = pair-few c.args.params c.loop-turn.pair c.loop-turn.invariant.missing c.loop-turn.invariant.state in
    record {
      same = ap (join_pair c.args.params) c.in_ok-turn.ensures.pair
          ∙ (join_pair-goes_on c.args.params c.loop-turn.pair ∙ c.loop-turn.invariant.same);
      missing = subst (λ (p : Pair). HaveFewFields p.missing.spatial) (sym c.in_ok-turn.ensures.pair) few.0;
      state = subst (λ (p : Pair). HaveFewFields p.state.heap.spatial) (sym c.in_ok-turn.ensures.pair) few.1;
    }
