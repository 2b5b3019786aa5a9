use Rattle.std.proofs.Common.{arith, []}
use Rattle.sym_abstract.proofs.ForgetTurns.{fields-turn}
use Rattle.sym_abstract.proofs.rooms.fields_and.Goals as goal

pub loop-atom-preserved : goal.loop-atom-preserved
loop-atom-preserved c =
    let turn = fields-turn [] c.args.atoms.now c.loop-atom.atom-index c.atom-item.result c.loop-atom-test.true c.atom-item.is in
    record {
      same =
          omega (
            arith,
            turn,
            c.loop-atom.invariant.same,
            c.loop-atom.invariant.small,
            c.fields_of.ensures,
            c.saturating_add.ensures,
            c.min-all.ensures,
          );
      small = omega (arith, c.min-all.ensures);
    }
