-- One parameter more.
use Rattle.std.proofs.Common.{rules}
use Rattle.sym_samples.proofs.NumberTurns.{numbers_turn}
use Rattle.sym_samples.proofs.numbers.parameter_values.Goals as goal

pub loop-x-preserved : goal.loop-x-preserved
loop-x-preserved c =
    numbers_turn c.args.facts.now c.args.params c.loop-x.x c.loop-x.all c.push.new.self c.number_of.result c.loop-x-test.true
    c.loop-x.invariant c.number_of.ensures (search rules)
