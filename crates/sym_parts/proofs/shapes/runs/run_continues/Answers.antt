-- By induction on the first list, step by step.
use Rattle.sym_parts.proofs.ShapesLemmas.Continued.{run-append}
use Rattle.sym_parts.proofs.shapes.runs.run_continues.Goals as goal

pub returns : goal.returns
returns c = run-append
