use Rattle.std.proofs.Common.{◌≡◌, ◌≤◌, ◌*◌, map, take}
use Rattle.report_text.specs.Report.{spec_count}
use Rattle.report_text.proofs.totals.count_specs.Given as goal

-- the specs of the summaries so far
abbrev pub invariant-loop-one : goal.invariant-loop-one
invariant-loop-one g l = record {
  exact : l.count ≡ spec_count (map g.S.HasSummary.its (take l.one-index l.summaries));
  within : l.count ≤ l.one-index * 4294967295;
}
