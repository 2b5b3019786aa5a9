use Rattle.std.proofs.Common.{ℕ, ◌<◌, slice_index_or}
use Rattle.shape_data.specs.declared.answer.ProcSummary.{ProcSummary}
use Rattle.shape_data.specs.declared.program.Flow.{Flow}
use Rattle.shape_data.specs.WellFormed.{storable, IsSummary}
use Rattle.shape_data.proofs.well_formed.are_summaries.Given as goal

-- each summary before the place is one of its flow
abbrev pub invariant-loop-place : goal.invariant-loop-place
invariant-loop-place l = (k : ℕ) (flow : Flow) (summary : ProcSummary) → k < l.place →
    IsSummary storable l.structs (slice_index_or l.flows k flow) (slice_index_or l.summaries k summary)
