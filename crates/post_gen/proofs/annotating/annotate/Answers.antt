use Rattle.std.proofs.Common.{rules}
use Rattle.post_gen.specs.Conditions.{IsListing}
use Rattle.post_gen.specs.InListing.{listing_in}
use Rattle.post_gen.proofs.ListingLaws.{exits-within}
use Rattle.certificate_steps.specs.InTask.{task_in}
use Rattle.post_gen.proofs.annotating.annotate.Goals as goal

pub all_done-requires : goal.all_done-requires
all_done-requires c =
    let listed : IsListing (task_in c.args.task.now) (listing_in c.list_all.new.listing) = search rules in
    exits-within (task_in c.args.task.now) (listing_in c.list_all.new.listing) listed c.requires.task
