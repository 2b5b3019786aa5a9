use Rattle.std.proofs.Common.{◌≡◌, ◌≤◌, ◌*◌, take, length}
use Rattle.std.specs.List.{count_by, flat_map}
use Rattle.report_text.specs.Report.{has_no_spec, spec_count}
use Rattle.report_text.proofs.totals.total.Given as goal

-- the totals of the answers so far
abbrev pub invariant-loop-answer : goal.invariant-loop-answer
invariant-loop-answer l = record {
  procs : l.procs ≡ length (flat_map (λ answer. answer.value.procs) (take l.answer-index l.answers));
  specs : l.specs ≡ spec_count (flat_map (λ answer. answer.value.procs) (take l.answer-index l.answers));
  none : l.none ≡ count_by has_no_spec (flat_map (λ answer. answer.value.procs) (take l.answer-index l.answers));
  few_procs : l.procs ≤ l.answer-index * 4294967295;
  few_specs : l.specs ≤ l.answer-index * 18446744073709551615;
  few_none : l.none ≤ l.answer-index * 4294967295;
}
