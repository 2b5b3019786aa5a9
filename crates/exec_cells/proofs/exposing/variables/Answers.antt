use Rattle.std.proofs.Common.{arith}
use Rattle.exec_cells.proofs.ExposeTurns.{variables_turn}
use Rattle.exec_cells.proofs.exposing.variables.Goals as goal

pub loop-turn-preserved : goal.loop-turn-preserved
loop-turn-preserved c = (
  variables_turn c.args.count c.loop-turn.turn c.loop-turn.x _ c.loop-turn.all c.push.new.self c.loop-turn-test.true
      c.loop-turn.invariant.0 c.in_ok-push.ensures.ok,
  omega arith,
)
