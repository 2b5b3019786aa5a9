use Rattle.std.proofs.Common.{◌≡◌, take, slice_get, filter}
use Rattle.std.specs.List.{filter_map}
use Rattle.call_components.specs.Reaching.{marked}
use Rattle.composed_keys.proofs.structures.marked_structs.Given as goal

abbrev pub invariant-loop-number : goal.invariant-loop-number
invariant-loop-number l = l.used ≡ filter_map (slice_get l.structs) (filter (marked l.marks) (take l.number-index l.order))
