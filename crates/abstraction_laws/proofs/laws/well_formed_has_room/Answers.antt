use Rattle.abstraction_laws.proofs.PairRoomLaws.{joined_pair_has_room}
use Rattle.abstraction_laws.proofs.RoomLaws.{cells_have_few_fields, large_pair_has_room, well_formed_is_within_room}
use Rattle.abstraction_laws.proofs.laws.well_formed_has_room.Goals as goal

pub returns-clause-state : goal.returns-clause-state
returns-clause-state c = well_formed_is_within_room

pub returns-clause-fields : goal.returns-clause-fields
returns-clause-fields c = cells_have_few_fields

pub returns-clause-large : goal.returns-clause-large
returns-clause-large c = large_pair_has_room

pub returns-clause-pair : goal.returns-clause-pair
returns-clause-pair c = joined_pair_has_room
