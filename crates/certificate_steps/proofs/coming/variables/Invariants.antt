use Rattle.std.proofs.Common.{◌≡◌}
use Rattle.certificate_steps.specs.InTask.{variables_below}
use Rattle.certificate_steps.proofs.coming.variables.Given as goal

abbrev pub invariant-loop-slot : goal.invariant-loop-slot
invariant-loop-slot l = l.made.items ≡ variables_below l.slot
