use Rattle.sym_matching.proofs.NextSteps.{atom_names, atoms_name}
use Rattle.sym_matching.proofs.rooms.atoms_take_few_logical.Goals as goal

pub returns-clause-one : goal.returns-clause-one
returns-clause-one c = atom_names

pub returns-clause-all : goal.returns-clause-all
returns-clause-all c = atoms_name
