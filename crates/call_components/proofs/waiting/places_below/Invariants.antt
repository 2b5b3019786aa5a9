use Rattle.std.proofs.Common.{◌≡◌}
use Rattle.call_components.specs.Sorting.{below}
use Rattle.call_components.proofs.waiting.places_below.Given as goal

abbrev pub invariant-loop-place : goal.invariant-loop-place
invariant-loop-place l = l.places.items ≡ below l.place
