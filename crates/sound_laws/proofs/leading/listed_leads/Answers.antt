use Rattle.sound_laws.proofs.LeadingLemmas.{listed_post_leads, listed_state_leads}
use Rattle.sound_laws.proofs.leading.listed_leads.Goals as goal

pub returns-clause-states : goal.returns-clause-states
returns-clause-states c = listed_state_leads

pub returns-clause-posts : goal.returns-clause-posts
returns-clause-posts c = listed_post_leads
