use Rattle.std.proofs.Common.{◌≡◌, false, take, slice_get}
use Rattle.std.specs.List.{filter_map}
use Rattle.component_keys.specs.Keys.{flows_of}
use Rattle.summary_book.specs.Aims.{has_name}
use Rattle.summary_book.proofs.parts.has_name.Given as goal

abbrev pub invariant-loop-number : goal.invariant-loop-number
invariant-loop-number l = has_name l.name (filter_map (slice_get (flows_of l.program)) (take l.number-index l.members)) ≡ false
