use Rattle.std.proofs.Common.{◌+◌, length, subst, sym}
use Rattle.shape_data.specs.declared.symbolic.SymState.{SymState}
use Rattle.abstraction_laws.specs.Forgetting.{first_new}
use Rattle.abstraction_laws.specs.Rooms.{HaveFewFields}
use Rattle.abstraction_laws.proofs.FewLaws.{forgotten-few}
use Rattle.sym_abstract.proofs.heads.at_head.Goals as goal

pub reduced-requires : goal.reduced-requires
reduced-requires c = record {
  few =
      subst (λ (s : SymState). HaveFewFields s.heap.spatial) (sym c.in_ok-forget.ensures)
      (forgotten-few c.args.structs.now
      (first_new c.args.state.now + length c.args.state.now.locals) c.args.state.now.heap.spatial c.requires.few);
}
