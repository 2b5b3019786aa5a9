use Rattle.std.proofs.Common.{◌≡◌, take, slice_get}
use Rattle.std.specs.List.{filter_map}
use Rattle.component_keys.specs.Keys.{flows_of}
use Rattle.composed_keys.proofs.keys.are_flows.Given as goal

abbrev pub invariant-loop-place : goal.invariant-loop-place
invariant-loop-place l = take l.place l.flows ≡ filter_map (slice_get (flows_of l.program)) (take l.place l.members)
