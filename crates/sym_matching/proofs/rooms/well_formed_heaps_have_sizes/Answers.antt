use Rattle.sym_matching.proofs.RoomLaws.{few_fields}
use Rattle.sym_matching.proofs.SizeLaws.{well_formed_is_within_sizes}
use Rattle.sym_matching.proofs.rooms.well_formed_heaps_have_sizes.Goals as goal

pub returns-clause-sizes : goal.returns-clause-sizes
returns-clause-sizes c = well_formed_is_within_sizes

pub returns-clause-fields : goal.returns-clause-fields
returns-clause-fields c = few_fields
