use Rattle.sym_matching.proofs.RoomSteps.{atom_takes_room, atoms_take_room}
use Rattle.sym_matching.proofs.rooms.atoms_take_room.Goals as goal

pub returns-clause-one : goal.returns-clause-one
returns-clause-one c = atom_takes_room

pub returns-clause-all : goal.returns-clause-all
returns-clause-all c = atoms_take_room
