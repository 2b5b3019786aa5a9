-- The summary has a spec.
use Rattle.std.proofs.Common.{◌∙◌, sym}
use Rattle.report_text.proofs.Appending.{lines_of_specs}
use Rattle.report_text.proofs.blocks.push_summary.Goals as goal

pub returns-else-is_empty : goal.returns-else-is_empty
returns-else-is_empty c =
    let over_params = rw c.as_slice.ensures at c.push_specs.ensures in
    rw (lines_of_specs c.args.structs.now c.args.proc.now c.args.summary.now.specs c.args.summary.now.reason
    (sym c.is_empty.ensures ∙ c.if-is_empty.false))
    (rw c.as_slice-else-is_empty.ensures at over_params)
