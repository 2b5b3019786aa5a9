use Rattle.std.proofs.Common.{rules}
use Rattle.sym_matching.proofs.RenamingLemmas.Turns.{parameters_turn}
use Rattle.sym_matching.proofs.renaming.calls.parameters.Goals as goal

pub loop-x-preserved : goal.loop-x-preserved
loop-x-preserved c =
    parameters_turn c.args.count c.loop-x.x c.loop-x.names.items c.push.new.self.items c.loop-x-test.true c.loop-x.invariant (search rules)
