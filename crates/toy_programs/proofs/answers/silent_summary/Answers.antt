use Rattle.shape_data.specs.declared.answer.Reason.TheVariants.{Endless}
use Rattle.std.proofs.Common.{Some}
use Rattle.claim_core.proofs.Summaries.{silent_is}
use Rattle.toy_programs.proofs.answers.silent_summary.Goals as goal

pub returns-clause-is : goal.returns-clause-is
returns-clause-is c = λ structs.
    silent_is structs c.args.flow.now c.in_ok-copy_of.field-0 c.new.result c.new-2.result
    (Some Endless) c.in_ok-copy_of.ensures c.new.ensures c.new-2.ensures
