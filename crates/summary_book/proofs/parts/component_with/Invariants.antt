use Rattle.std.proofs.Common.{◌≡◌, ◌<◌, ℕ, false, slice_get, Some}
use Rattle.component_keys.specs.Keys.{Component, program_components}
use Rattle.summary_book.specs.Aims.{has_name}
use Rattle.summary_book.proofs.parts.component_with.Given as goal

abbrev pub invariant-loop-place : goal.invariant-loop-place
invariant-loop-place l = (k : ℕ) (part : Component) → k < l.place → slice_get (program_components l.parts.program.value) k ≡ Some part
    → has_name l.name part.flows ≡ false
