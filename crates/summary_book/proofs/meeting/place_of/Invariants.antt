use Rattle.std.proofs.Common.{◌≡◌, ◌<◌, ℕ, slice_get, Some}
use Rattle.component_keys.specs.Keys.{Component, names_of, program_components}
use Rattle.summary_book.proofs.meeting.place_of.Given as goal

abbrev pub invariant-loop-place : goal.invariant-loop-place
invariant-loop-place l = (k : ℕ) (part : Component) → k < l.place → slice_get (program_components l.parts.program.value) k ≡ Some part
    → names_of part.flows ≡ names_of l.procs → ⊥
