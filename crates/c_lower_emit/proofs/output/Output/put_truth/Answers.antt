use Rattle.std.proofs.Common.{refl}
use Rattle.c_lower_emit.proofs.Using.{truth_put_at}
use Rattle.c_lower_emit.proofs.output.Output.put_truth.Goals as goal

pub returns : goal.returns
returns c = λ ctx line tested start from room tests.
    truth_put_at _ ctx c.args.to tested start c.args.self.now c.push_number.new.self c.push_number-2.new.self c.redirect.new.self
    c.args.from c.len-past.result c.here-holds.result c.here-fails.result
    from c.len-past.ensures room tests (c.in_ok-push_number.ensures ctx line)
    (c.in_ok-push_number-2.ensures ctx line) c.here-holds.ensures c.here-fails.ensures refl refl c.redirect.ensures
