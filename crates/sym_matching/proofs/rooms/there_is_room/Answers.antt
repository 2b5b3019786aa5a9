use Rattle.sym_matching.proofs.RoomLaws.{room_below, room_of_few, room_parts}
use Rattle.sym_matching.proofs.rooms.there_is_room.Goals as goal

pub returns-clause-below : goal.returns-clause-below
returns-clause-below c = room_below

pub returns-clause-few : goal.returns-clause-few
returns-clause-few c = room_of_few

pub returns-clause-parts : goal.returns-clause-parts
returns-clause-parts c = room_parts
