use Rattle.solve_laws.specs.Annotation.Annotation.{result_comes}
use Rattle.post_gen.proofs.Coming.{ComesUpTo}
use Rattle.post_gen.specs.InListing.{listing_in}
use Rattle.certificate_steps.specs.InTask.{task_in}
use Rattle.post_gen.proofs.turns.results_come.Given as goal

abbrev pub invariant-loop-next : goal.invariant-loop-next
invariant-loop-next l =
    ComesUpTo (task_in l.task) (result_comes (task_in l.task)) l.nexts l.next-index (listing_in l.initial.listing) (listing_in l.listing)
