-- What is written, and what is still to come, are the whole.
use Rattle.std.proofs.Common.{◌≡◌, ◌++◌, map, drop}
use Rattle.report_text.specs.Report.{blocks_text}
use Rattle.report_text.proofs.reports.push_blocks.Given as goal

abbrev pub invariant-loop-place : goal.invariant-loop-place
invariant-loop-place g l =
    l.text.items ++ blocks_text l.structs (drop l.place l.procs) (map g.S.HasSummary.its (drop l.place l.summaries))
    ≡ l.fn.text.items ++ blocks_text l.structs l.procs (map g.S.HasSummary.its l.summaries)
