use Rattle.std.proofs.Common.{◌-◌}
use Rattle.post_gen.proofs.Queueing.{TakesUpTo}
use Rattle.post_gen.specs.InListing.{listing_in}
use Rattle.certificate_steps.specs.InTask.{task_in}
use Rattle.post_gen.proofs.turns.turns.Given as goal

abbrev pub invariant-loop-turn : goal.invariant-loop-turn
invariant-loop-turn l = TakesUpTo (task_in l.task) l.most (l.most - l._turn) (listing_in l.initial.listing) (listing_in l.listing)
