use Rattle.std.proofs.Common.{◌-◌, length}
use Rattle.reporters.proofs.Fed.{IsFeeding}
use Rattle.reporters.proofs.feeding.feed_all.Given as goal

-- whatever comes of those that are left goes behind those that stay
abbrev pub invariant-loop-place : goal.invariant-loop-place
invariant-loop-place g l =
    IsFeeding (λ b. (goal.Reporter-dyn g (b.vtable, b.value)).known b.value) l.entry l.fn.reporters.items l.reporters.items l.place

abbrev pub decreases-loop-place : goal.decreases-loop-place
decreases-loop-place g l = length l.reporters.items - l.place
