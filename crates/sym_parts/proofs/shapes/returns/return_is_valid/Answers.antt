-- A run either has not begun, or returns at its first step.
use Rattle.sym_parts.proofs.ShapesLemmas.Returning.{parameter-Valid, number-Valid, other_slot-Valid}
use Rattle.sym_parts.proofs.shapes.returns.return_is_valid.Goals as goal

pub returns-clause-parameter : goal.returns-clause-parameter
returns-clause-parameter c = parameter-Valid

pub returns-clause-number : goal.returns-clause-number
returns-clause-number c = number-Valid

pub returns-clause-other_slot : goal.returns-clause-other_slot
returns-clause-other_slot c = other_slot-Valid
