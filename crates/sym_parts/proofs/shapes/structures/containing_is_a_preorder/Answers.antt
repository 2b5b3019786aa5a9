use Rattle.sym_parts.proofs.shapes.structures.containing_is_a_preorder.Goals as goal

pub returns-clause-itself : goal.returns-clause-itself
returns-clause-itself c = λ structs name def is. is

pub returns-clause-through : goal.returns-clause-through
returns-clause-through c = λ large middle small upper lower name def is. upper name def (lower name def is)
