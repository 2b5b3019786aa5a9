-- There is room beside the variables of both states.
use Rattle.subtraction.proofs.StateConditions.{covering-few, covering-names, covering-room}
use Rattle.subtraction.proofs.covering.matches_state.Goals as goal

pub match_state-requires-clause-room : goal.match_state-requires-clause-room
match_state-requires-clause-room c =
    covering-room c.args.a.now c.args.b.now c.in_ok-apart.apart c.requires.a c.requires.b c.in_ok-apart.ensures

pub match_state-requires-clause-names : goal.match_state-requires-clause-names
match_state-requires-clause-names c =
    covering-names c.args.a.now c.args.b.now c.in_ok-apart.apart c.requires.a c.requires.b c.in_ok-apart.ensures

pub match_state-requires-clause-few : goal.match_state-requires-clause-few
match_state-requires-clause-few c =
    covering-few c.args.a.now c.args.b.now c.in_ok-apart.apart c.requires.a c.requires.b c.in_ok-apart.ensures
