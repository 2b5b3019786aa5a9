-- Each turn gives one variable.
use Rattle.std.proofs.Common.{◌≡◌, rules}
use Rattle.sym_matching.specs.NewVariables.{fresh}
use Rattle.sym_matching.proofs.RenamingLemmas.NewVariableTurns.{first_below, turn}
use Rattle.sym_matching.proofs.renaming.new_variables.fresh_variables.Goals as goal

pub fresh-x-requires : goal.fresh-x-requires
fresh-x-requires c =
    rw c.as_slice.ensures (first_below c.args.count c.loop-turn.turn c.loop-turn.used c.loop-turn-test.true c.loop-turn.invariant.2)

pub loop-turn-preserved : goal.loop-turn-preserved
loop-turn-preserved c =
    let is : c.fresh-x.result ≡ fresh c.loop-turn.used = rw c.as_slice.ensures at c.fresh-x.ensures in
    turn c.args.count c.loop-turn.turn c.loop-turn.used c.loop-turn-test.true c.args.used.now c.loop-turn.names.items
    c.push-in-loop-turn.new.self c.push.new.self.items c.fresh-x.result c.loop-turn.invariant is (search rules) (search rules)
