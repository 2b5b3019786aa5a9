use Rattle.sound_laws.proofs.LeadingLemmas.{post_leads_on, state_leads_on}
use Rattle.sound_laws.proofs.leading.cases_lead_on.Goals as goal

pub returns-clause-states : goal.returns-clause-states
returns-clause-states c = state_leads_on

pub returns-clause-posts : goal.returns-clause-posts
returns-clause-posts c = post_leads_on
