-- Each spec is well formed.
use Rattle.std.proofs.Common.{length}
use Rattle.report_text.proofs.laws.formed_is_printable.Goals as goal

pub returns : goal.returns
returns c = λ limits structs flow summary is reason. record {
  specs = λ k d below. c.well_formed_spec_is_shaped.ensures limits structs (length flow.params) _ (is.specs k d below);
  reason = reason;
}
