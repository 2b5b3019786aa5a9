use Rattle.sym_parts.proofs.LawsLemmas.RenamedLemmas.{renamed_state_meets, renamed_post_meets}
use Rattle.sym_parts.proofs.laws.mapping.renamed_meets.Goals as goal

pub returns-clause-state : goal.returns-clause-state
returns-clause-state c = renamed_state_meets

pub returns-clause-post : goal.returns-clause-post
returns-clause-post c = renamed_post_meets
