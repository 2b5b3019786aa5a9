use Rattle.c_grammar.proofs.RoundTrip.{round_trip as law}
use Rattle.c_grammar.proofs.laws.round_trip.Goals as goal

pub returns : goal.returns
returns c = law
