-- A line more was appended.
use Rattle.std.proofs.Common.{◌∙◌, ◌++◌, ap}
use Rattle.session_generator.specs.Generated.{proc_line}
use Rattle.session_generator.proofs.Appending.{one_more}
use Rattle.session_generator.proofs.lines.generate.Goals as goal

pub loop-number-preserved : goal.loop-number-preserved
loop-number-preserved c =
    c.in_ok-push_proc.ensures ∙ ap (λ xs. xs ++ proc_line c.loop-number.number) c.loop-number.invariant ∙ one_more c.loop-number.number
