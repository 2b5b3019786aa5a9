-- Where a summary stands in an answer.
use Rattle.std.specs.Prelude.{ℕ, None, List, [], slice_get, unwrap_or}
use Rattle.shape_data.specs.declared.answer.ProcSummary.{ProcSummary}

-- a summary that says nothing
abbrev pub nothing : ProcSummary
nothing = record { name = []; specs = []; certs = []; reason = None }

-- the summary at a place of an answer's, which says nothing where there is no such place
abbrev pub summary_at : List ProcSummary → ℕ → ProcSummary
summary_at procs place = unwrap_or (slice_get procs place) nothing
