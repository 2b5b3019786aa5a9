use Rattle.sym_matching.proofs.RoomLaws.{search_finds_free}
use Rattle.sym_matching.proofs.rooms.search_finds_free.Goals as goal

pub returns : goal.returns
returns c = search_finds_free
