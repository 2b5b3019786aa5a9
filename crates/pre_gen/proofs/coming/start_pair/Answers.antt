-- Nothing is missing.
use Rattle.std.proofs.Common.{◌≡◌, ◌∙◌, ap}
use Rattle.std.proofs.lemmas.Result.{IfOk-weaker}
use Rattle.sym_parts.specs.Shapes.Symbolic.{emp}
use Rattle.sym_canon.specs.declared.parts.Pair.{Pair}
use Rattle.sym_canon.specs.Canonical.{canon_pair}
use Rattle.certificate_steps.specs.InTask.{task_in}
use Rattle.solve_laws.specs.Candidates.Coming.{start_pair}
use Rattle.pre_gen.proofs.coming.start_pair.Goals as goal

pub returns : goal.returns
returns c =
    IfOk-weaker c.canon_pair.result (λ (pair : Pair). pair ≡ canon_pair c.emp-missing.result c.args.start.now c.params_of.result)
    (λ (pair : Pair). pair ≡ start_pair (task_in c.args.task.now) c.args.start.now)
    (λ pair is. is ∙ ap (λ missing. canon_pair missing c.args.start.now c.params_of.result) c.emp-missing.ensures
    ∙ ap (canon_pair emp c.args.start.now) c.params_of.ensures) c.canon_pair.ensures
