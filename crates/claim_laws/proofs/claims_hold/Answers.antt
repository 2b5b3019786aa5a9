-- Each law as it is proved over any meaning of a job.
use Rattle.claim_laws.proofs.Core.{slots_solve, slots_were_published, claimed_once, claimed_are_present, claimed_where_new}
use Rattle.claim_laws.proofs.Once.{settled_stays}
use Rattle.claim_laws.proofs.claims_hold.Goals as goal

pub returns-clause-solved : goal.returns-clause-solved
returns-clause-solved g c = slots_solve g.J.Meaning.solves

pub returns-clause-published : goal.returns-clause-published
returns-clause-published g c = slots_were_published

pub returns-clause-settled : goal.returns-clause-settled
returns-clause-settled g c = settled_stays

pub returns-clause-once : goal.returns-clause-once
returns-clause-once g c = claimed_once g.J.Meaning.solves

pub returns-clause-present : goal.returns-clause-present
returns-clause-present g c = claimed_are_present g.J.Meaning.solves

pub returns-clause-new : goal.returns-clause-new
returns-clause-new g c = claimed_where_new g.J.Meaning.solves
