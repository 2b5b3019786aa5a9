use Rattle.std.proofs.Common.{◌≡◌, ◌≤◌, map, take}
use Rattle.std.specs.List.{count_by}
use Rattle.report_text.specs.Report.{has_no_spec}
use Rattle.report_text.proofs.totals.count_none.Given as goal

-- those of the summaries so far that have no spec
abbrev pub invariant-loop-one : goal.invariant-loop-one
invariant-loop-one g l = record {
  exact : l.count ≡ count_by has_no_spec (map g.S.HasSummary.its (take l.one-index l.summaries));
  within : l.count ≤ l.one-index;
}
