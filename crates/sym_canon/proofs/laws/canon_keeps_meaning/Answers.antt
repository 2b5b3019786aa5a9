use Rattle.sym_canon.proofs.CanonLaws.{canon_state_keeps_meaning, canon_post_keeps_meaning}
use Rattle.sym_canon.proofs.laws.canon_keeps_meaning.Goals as goal

pub returns-clause-state : goal.returns-clause-state
returns-clause-state c = canon_state_keeps_meaning

pub returns-clause-post : goal.returns-clause-post
returns-clause-post c = canon_post_keeps_meaning
