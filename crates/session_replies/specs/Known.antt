-- What is known of a procedure.
use Rattle.std.specs.Prelude.{ℕ, List, Option, slice_get}
use Rattle.std.specs.List.{position}
use Rattle.std.specs.Option.{option_and_then}
use Rattle.shape_data.specs.declared.answer.ProcSummary.{ProcSummary}
use Rattle.shape_data.specs.declared.program.Program.{Program}
use Rattle.claim_core.specs.Views.{Solution}
use Rattle.bottom_up.specs.BottomUp.{program_summaries}
use Rattle.session_replies.specs.Texts.{is_named}

-- what an analysis over loaded entries knows of the procedure of a name
abbrev pub named_summary : List Solution → Program → List ℕ → Option ProcSummary
named_summary loaded program name = option_and_then (slice_get (program_summaries loaded program)) (position (is_named name) program.procs)
