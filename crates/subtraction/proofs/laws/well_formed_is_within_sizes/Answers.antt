-- The laws, as they are proved of the definitions.
use Rattle.subtraction.proofs.StateConditions.{state_within, post_within}
use Rattle.subtraction.proofs.laws.well_formed_is_within_sizes.Goals as goal

pub returns-clause-state : goal.returns-clause-state
returns-clause-state c = state_within

pub returns-clause-post : goal.returns-clause-post
returns-clause-post c = post_within
