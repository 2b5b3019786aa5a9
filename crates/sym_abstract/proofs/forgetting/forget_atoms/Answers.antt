use Rattle.std.proofs.Common.{arith}
use Rattle.sym_abstract.proofs.ForgetTurns.{atom-turn, fields-turn}
use Rattle.sym_abstract.proofs.forgetting.forget_atoms.Goals as goal

pub forget_atom-requires : goal.forget_atom-requires
forget_atom-requires c =
    let turn =
    fields-turn c.args.structs.now c.args.atoms.now c.loop-atom.atom-index c.atom-item.result c.loop-atom-test.true c.atom-item.is in
    omega (arith, turn, c.loop-atom.invariant.room, c.requires)

pub overflow_add-next : goal.overflow_add-next
overflow_add-next c =
    let turn =
    fields-turn c.args.structs.now c.args.atoms.now c.loop-atom.atom-index c.atom-item.result c.loop-atom-test.true c.atom-item.is in
    omega (arith, turn, c.loop-atom.invariant.room, c.requires, c.fields_of.ensures)

pub loop-atom-preserved : goal.loop-atom-preserved
loop-atom-preserved c =
    let turn =
    fields-turn c.args.structs.now c.args.atoms.now c.loop-atom.atom-index c.atom-item.result c.loop-atom-test.true c.atom-item.is in
    record {
      made =
          rw c.fields_of.ensures
          (atom-turn c.args.structs.now c.args.atoms.now c.loop-atom.atom-index c.atom-item.result c.loop-atom-test.true c.atom-item.is
          c.args.first c.loop-atom.next c.loop-atom.made.items _ _ c.loop-atom.invariant.made c.in_ok-forget_atom.ensures
          c.in_ok-push.ensures.items);
      room = omega (arith, turn, c.loop-atom.invariant.room, c.fields_of.ensures);
    }
