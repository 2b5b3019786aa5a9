use Rattle.std.proofs.Common.{◌≡◌, take, slice_get}
use Rattle.std.specs.List.{filter_map}
use Rattle.component_keys.specs.Keys.{flows_of}
use Rattle.composed_keys.proofs.keys.flows_at.Given as goal

abbrev pub invariant-loop-number : goal.invariant-loop-number
invariant-loop-number l = l.flows ≡ filter_map (slice_get (flows_of l.program)) (take l.number-index l.members)
