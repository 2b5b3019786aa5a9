use Rattle.grammar_laws.proofs.Halted.{stops_exactly}
use Rattle.grammar_laws.proofs.laws.stops_where_it_must.Goals as goal

pub returns : goal.returns
returns c = stops_exactly
