use Rattle.sym_matching.proofs.CoverLaws.{covering_post_meets, covering_state_meets}
use Rattle.sym_matching.proofs.laws.covering_is_met.Goals as goal

pub returns-clause-state : goal.returns-clause-state
returns-clause-state c = covering_state_meets

pub returns-clause-post : goal.returns-clause-post
returns-clause-post c = covering_post_meets
