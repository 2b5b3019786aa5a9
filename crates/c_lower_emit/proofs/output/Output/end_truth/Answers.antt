use Rattle.std.proofs.Common.{ap}
use Rattle.c_lower_emit.specs.declared.drafts.Label.TheVariants.{At}
use Rattle.c_lower_emit.proofs.Using.{truth_valued_at}
use Rattle.c_lower_emit.proofs.output.Output.end_truth.Goals as goal

pub returns-in_ok-put_truth-in-Value : goal.returns-in_ok-put_truth-in-Value
returns-in_ok-put_truth-in-Value c = λ ctx line first testing before start begins from tests.
    truth_valued_at c.args.used c.in-Value.is _ ctx c.args.spot.first_temp first c.args.to c.args.from c.len-past.result testing before
    start c.args.self.now c.put_truth.new.self c.redirect.new.self
    begins from c.len-past.ensures tests (c.in_ok-put_truth-in-Value.ensures ctx line (testing start.temps) start from)
    (λ lt. ap At (c.here.ensures lt)) c.redirect.ensures
