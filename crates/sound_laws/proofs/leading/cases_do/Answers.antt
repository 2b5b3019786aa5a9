use Rattle.sound_laws.proofs.LeadingLemmas.{cases_do}
use Rattle.sound_laws.proofs.leading.cases_do.Goals as goal

pub returns : goal.returns
returns c = cases_do
