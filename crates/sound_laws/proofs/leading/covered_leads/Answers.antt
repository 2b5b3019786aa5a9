use Rattle.sound_laws.proofs.LeadingLemmas.{covered_post_leads, covered_state_leads}
use Rattle.sound_laws.proofs.leading.covered_leads.Goals as goal

pub returns-clause-states : goal.returns-clause-states
returns-clause-states c = covered_state_leads

pub returns-clause-posts : goal.returns-clause-posts
returns-clause-posts c = covered_post_leads
