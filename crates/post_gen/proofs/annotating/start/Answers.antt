use Rattle.std.proofs.Common.{sym, subst}
use Rattle.post_gen.specs.Conditions.{IsListing}
use Rattle.post_gen.proofs.ListingLaws.{empty-given}
use Rattle.certificate_steps.specs.InTask.{task_in}
use Rattle.post_gen.proofs.annotating.start.Goals as goal

pub state_comes-requires-clause-listing : goal.state_comes-requires-clause-listing
state_comes-requires-clause-listing c =
    subst (IsListing (task_in c.args.task.now)) (sym c.requires.listing) (empty-given (task_in c.args.task.now))

pub returns-in-None-clause-listing : goal.returns-in-None-clause-listing
returns-in-None-clause-listing c =
    subst (IsListing (task_in c.args.task.now)) (sym c.requires.listing) (empty-given (task_in c.args.task.now))
