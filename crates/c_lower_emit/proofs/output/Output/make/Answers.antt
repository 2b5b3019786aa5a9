use Rattle.std.proofs.lemmas.Result.{IfOk-weaker}
use Rattle.c_types_names.specs.Seen.{type_seen}
use Rattle.c_lower_emit.proofs.Using.{value_made_at, test_made_at}
use Rattle.c_lower_emit.proofs.output.Output.make.Goals as goal

pub returns-in-Value : goal.returns-in-Value
returns-in-Value c =
    IfOk-weaker c.make_value.result _ _ (λ found made ctx line first making before start.
    value_made_at c.args.used c.in-Value.is ctx c.args.spot.first_temp c.args.spot.line line first
    (type_seen c.args.kind) making c.args.cmd before c.args.self.now c.make_value.new.self found made start)
    c.make_value.ensures

pub returns-in_ok-push_not_zero-in-Test : goal.returns-in_ok-push_not_zero-in-Test
returns-in_ok-push_not_zero-in-Test c = λ ctx line first making before start.
    test_made_at c.args.used c.in-Test.is ctx c.args.spot.first_temp c.args.spot.line line first
    (type_seen c.args.kind) making c.args.cmd before c.args.self.now c.make_value-in-Test.new.self
    c.push_not_zero.new.self _ c.in_ok-operand-in-Test.ensures (c.in_ok-push_not_zero-in-Test.ensures ctx line) start
