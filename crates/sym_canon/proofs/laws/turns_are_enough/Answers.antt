use Rattle.sym_canon.proofs.TurnLaws.{more_turns_change_nothing}
use Rattle.sym_canon.proofs.laws.turns_are_enough.Goals as goal

pub returns : goal.returns
returns c = more_turns_change_nothing
