-- The operand's value in the new frame: an argument, the number, or one of the zeros after the arguments.
use Rattle.shape_data.specs.declared.program.Operand.TheVariants.{Num}
use Rattle.sym_parts.proofs.ShapesLemmas.Returning.{first_step, parameter-first_step, other_slot-first_step}
use Rattle.sym_parts.proofs.shapes.returns.return_takes_one_step.Goals as goal

pub returns-clause-parameter : goal.returns-clause-parameter
returns-clause-parameter c = parameter-first_step

pub returns-clause-number : goal.returns-clause-number
returns-clause-number c = λ program number n at_once. first_step program number (Num n) at_once

pub returns-clause-other_slot : goal.returns-clause-other_slot
returns-clause-other_slot c = other_slot-first_step
