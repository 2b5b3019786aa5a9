use Rattle.sym_abstract.proofs.ForgetTurns.{above-turn}
use Rattle.sym_abstract.proofs.forgetting.above_atoms.Goals as goal

pub loop-atom-preserved : goal.loop-atom-preserved
loop-atom-preserved c = record {
  value =
      above-turn c.args.atoms.now c.loop-atom.atom-index c.args.first c.loop-atom.last c.above_atom-last.result c.atom-item.result
      c.loop-atom-test.true c.atom-item.is c.loop-atom.invariant.value c.above_atom-last.ensures.value;
  small = λ low. c.above_atom-last.ensures.small (c.loop-atom.invariant.small low);
}
