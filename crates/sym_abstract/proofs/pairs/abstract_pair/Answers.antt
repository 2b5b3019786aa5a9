use Rattle.std.proofs.Common.{◌≤◌, ◌+◌, ◌∙◌, ap, subst, sym}
use Rattle.sym_canon.specs.declared.parts.Pair.{Pair}
use Rattle.abstraction_laws.specs.Forgetting.{first_new}
use Rattle.abstraction_laws.specs.Pairs.{join_pair}
use Rattle.abstraction_laws.specs.Rooms.{HaveFewFields}
use Rattle.abstraction_laws.proofs.FewLaws.{at_head-few}
use Rattle.abstraction_laws.proofs.PairRoomLaws.{joined_pair_has_room}
use Rattle.sym_abstract.proofs.pairs.abstract_pair.Goals as goal

pub join_pair-requires-clause-missing : goal.join_pair-requires-clause-missing
join_pair-requires-clause-missing c = subst (λ (p : Pair). HaveFewFields p.missing.spatial) (sym c.in_ok-reduced.ensures) c.requires.missing

pub join_pair-requires-clause-state : goal.join_pair-requires-clause-state
join_pair-requires-clause-state c =
    subst (λ (p : Pair). HaveFewFields p.state.heap.spatial) (sym c.in_ok-reduced.ensures)
    (at_head-few c.args.structs.now c.args.mark.now c.args.pair.now.state c.requires.state.fields)

pub last_steps-requires : goal.last_steps-requires
last_steps-requires c = record {
  room =
      subst (λ (p : Pair). first_new p.state + 65536 ≤ 4294967296) (sym (c.in_ok-joined.ensures ∙ ap (join_pair _) c.in_ok-reduced.ensures))
      (joined_pair_has_room c.args.structs.now _ c.args.pair.now c.args.mark.now c.requires.state.variables);
}

pub returns : goal.returns
returns c = rw (c.in_ok-stepped.ensures, c.in_ok-joined.ensures, c.in_ok-reduced.ensures, c.len-params.ensures) at c.pair_in_forms.ensures
