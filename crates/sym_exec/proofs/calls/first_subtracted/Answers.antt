-- The spec at the place fits, or the next one is looked at.
use Rattle.std.proofs.Common.{◌∙◌, ap, sym}
use Rattle.std.specs.Option.{option_map as map_option}
use Rattle.exec_laws.specs.Calling.{first_subtracted}
use Rattle.sym_exec.specs.Callers.{fit_in}
use Rattle.sym_exec.proofs.CalledSpecs.{first_none, first_some}
use Rattle.sym_exec.proofs.calls.first_subtracted.Goals as goal

pub returns-in-Some-clause-value : goal.returns-in-Some-clause-value
returns-in-Some-clause-value c =
    first_some c.args.caller.now.args.now c.args.caller.now.pair.now c.args.specs.now c.loop-spec.spec-index c.spec-item.result
    (first_subtracted c.args.caller.now.args.now c.args.caller.now.pair.now c.args.specs.now)
    c.loop-spec-test.true c.spec-item.is c.loop-spec.invariant (fit_in c.in-Some.fit)
    (ap (λ fit. map_option fit_in fit) (sym c.in-Some.is) ∙ c.in_ok-fit.ensures.value)

pub loop-spec-preserved : goal.loop-spec-preserved
loop-spec-preserved c =
    first_none c.args.caller.now.args.now c.args.caller.now.pair.now c.args.specs.now c.loop-spec.spec-index c.spec-item.result
    (first_subtracted c.args.caller.now.args.now c.args.caller.now.pair.now c.args.specs.now)
    c.loop-spec-test.true c.spec-item.is c.loop-spec.invariant
    (ap (λ fit. map_option fit_in fit) (sym c.in-None.is) ∙ c.in_ok-fit.ensures.value)
