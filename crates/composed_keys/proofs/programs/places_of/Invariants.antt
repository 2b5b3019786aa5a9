use Rattle.call_components.specs.Reaching.{rows}
use Rattle.composed_keys.specs.Programs.{ArePlaces}
use Rattle.composed_keys.proofs.programs.places_of.Given as goal

abbrev pub invariant-loop-place : goal.invariant-loop-place
invariant-loop-place l = ArePlaces l.count (rows l.all) l.place l.places.items
