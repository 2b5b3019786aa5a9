-- Names, one list behind another.
use Rattle.std.proofs.Common.{append_assoc}
use Rattle.std.proofs.lemmas.List.{append-nil, map-append}
use Rattle.c_types.proofs.NamesInTurn.{with_name-append}

pub ruleset naming = (append_assoc, append-nil, map-append, with_name-append)
