use Rattle.std.proofs.Common.{subst, sym}
use Rattle.shape_data.specs.declared.symbolic.SymState.{SymState}
use Rattle.abstraction_laws.specs.Rooms.{HaveFewFields}
use Rattle.abstraction_laws.proofs.FewLaws.{if_recursive-few}
use Rattle.sym_abstract.proofs.heads.at_exit.Goals as goal

pub reduced-requires : goal.reduced-requires
reduced-requires c = record {
  few =
      subst (λ (s : SymState). HaveFewFields s.heap.spatial) (sym c.in_ok-forget_if_recursive.ensures)
      (if_recursive-few c.args.recursive c.args.structs.now c.args.flow.now c.args.post.now c.requires.few);
}
