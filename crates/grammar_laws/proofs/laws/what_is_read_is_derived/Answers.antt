use Rattle.grammar_laws.proofs.Taken.{takes}
use Rattle.grammar_laws.proofs.laws.what_is_read_is_derived.Goals as goal

pub returns : goal.returns
returns c = λ form good from rest e. let t = takes form good from rest e in (t.words, t.splits, t.derives)
