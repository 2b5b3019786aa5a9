use Rattle.std.specs.Prelude.{◌≡◌, ◌-◌, ◌++◌, pos, length, replicate}
use Rattle.std.proofs.Common.{ap, ◌∙◌, rules}
use Rattle.std.proofs.lemmas.Result.{IfOk-weaker}
use Rattle.shape_data.specs.declared.symbolic.Exp.TheVariants.{Const}
use Rattle.certificate_steps.specs.InTask.{variables_below}
use Rattle.certificate_steps.proofs.Starts.{below-length}
use Rattle.certificate_steps.proofs.coming.start_locals.Goals as goal

pub returns : goal.returns
returns c =
    let is : c.in_ok-locals.locals.items ≡ variables_below c.args.params = search rules in
    let count : length c.in_ok-locals.locals.items ≡ c.args.params = ap (λ all. length all) is ∙ below-length c.args.params in
    IfOk-weaker c.filled.result _ _
    (λ made same. same ∙ ap (λ all. all ++ replicate (c.args.slots - length c.in_ok-locals.locals.items) (Const (pos 0))) is
    ∙ ap (λ n. variables_below c.args.params ++ replicate (c.args.slots - n) (Const (pos 0))) count) c.filled.ensures
