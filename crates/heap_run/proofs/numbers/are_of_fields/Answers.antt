use Rattle.std.proofs.Common.{sym}
use Rattle.heap_run.proofs.Scans.{counts_differ}
use Rattle.heap_run.proofs.numbers.are_of_fields.Goals as goal

pub returns-then-fields-values : goal.returns-then-fields-values
returns-then-fields-values c = sym (counts_differ c.args.fields.now c.args.values.now c.if-fields-values.true)
