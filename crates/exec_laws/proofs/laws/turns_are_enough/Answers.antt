use Rattle.exec_laws.proofs.TurnLemmas.{more_turns_change_nothing}
use Rattle.exec_laws.proofs.laws.turns_are_enough.Goals as goal

pub returns : goal.returns
returns c = more_turns_change_nothing
