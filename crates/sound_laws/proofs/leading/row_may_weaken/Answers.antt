use Rattle.sound_laws.proofs.LeadingLemmas.{row_may_weaken}
use Rattle.sound_laws.proofs.leading.row_may_weaken.Goals as goal

pub returns : goal.returns
returns c = row_may_weaken
