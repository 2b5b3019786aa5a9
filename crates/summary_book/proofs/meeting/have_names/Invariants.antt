use Rattle.std.proofs.Common.{◌≡◌, take, slice_get}
use Rattle.std.specs.List.{filter_map}
use Rattle.component_keys.specs.Keys.{flows_of, names_of}
use Rattle.summary_book.proofs.meeting.have_names.Given as goal

abbrev pub invariant-loop-place : goal.invariant-loop-place
invariant-loop-place l = names_of (filter_map (slice_get (flows_of l.program)) (take l.place l.members)) ≡ names_of (take l.place l.procs)
