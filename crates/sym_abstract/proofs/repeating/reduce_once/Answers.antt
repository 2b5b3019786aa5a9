use Rattle.std.proofs.Common.{subst, sym}
use Rattle.abstraction_laws.specs.Rooms.{HaveFewFields}
use Rattle.abstraction_laws.proofs.FewLaws.{kept-few}
use Rattle.sym_abstract.proofs.repeating.reduce_once.Goals as goal

pub join_inner-requires : goal.join_inner-requires
join_inner-requires c =
    record { few = subst HaveFewFields (sym c.in_ok-kept.ensures) (kept-few c.args.locals.now c.args.heap.spatial c.requires.few) }
