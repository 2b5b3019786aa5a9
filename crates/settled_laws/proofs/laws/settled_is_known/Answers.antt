-- Each clause as it is proved over any meaning of a job.
use Rattle.settled_laws.proofs.Aimed.{all_are_aimed, collected_are_known}
use Rattle.settled_laws.proofs.Counted.{settled_were_published}
use Rattle.settled_laws.proofs.Many.{collected_are_many}
use Rattle.settled_laws.proofs.Whole.{settled_is_all}
use Rattle.settled_laws.proofs.laws.settled_is_known.Goals as goal

pub returns-clause-collected : goal.returns-clause-collected
returns-clause-collected g c = collected_are_known g.J.Meaning.solves

pub returns-clause-many : goal.returns-clause-many
returns-clause-many g c = collected_are_many

pub returns-clause-aimed : goal.returns-clause-aimed
returns-clause-aimed g c = all_are_aimed

pub returns-clause-settled : goal.returns-clause-settled
returns-clause-settled g c = settled_is_all

pub returns-clause-published : goal.returns-clause-published
returns-clause-published g c = settled_were_published
