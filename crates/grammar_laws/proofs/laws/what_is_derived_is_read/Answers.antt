use Rattle.grammar_laws.proofs.Complete.{complete}
use Rattle.grammar_laws.proofs.laws.what_is_derived_is_read.Goals as goal

pub returns : goal.returns
returns c = λ form good words rest derives ends. complete form good words rest derives ends
