use Rattle.sound_laws.proofs.CaseLemmas.{cases_go_on}
use Rattle.sound_laws.proofs.certificates.cases_go_on.Goals as goal

pub returns : goal.returns
returns c = cases_go_on
