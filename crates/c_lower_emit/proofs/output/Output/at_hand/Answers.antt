use Rattle.std.proofs.Common.{sym, subst}
use Rattle.c_lower_rules.specs.Values.{at_hand}
use Rattle.c_types_names.specs.Seen.{type_seen}
use Rattle.c_lower_emit.specs.Emitting.{Emits}
use Rattle.c_lower_emit.proofs.Using.{hand_tested}
use Rattle.c_lower_emit.proofs.output.Output.at_hand.Goals as goal

pub returns-in_ok-push_not_zero-in-Test : goal.returns-in_ok-push_not_zero-in-Test
returns-in_ok-push_not_zero-in-Test c = λ ctx line.
    subst (λ u. Emits u
    (at_hand ctx (type_seen c.args.kind) c.args.operand) c.args.spot.first_temp c.args.self.now c.push_not_zero.new.self c.args.operand)
    (sym c.in-Test.is)
    (hand_tested ctx (type_seen c.args.kind) c.args.spot.first_temp c.args.operand c.args.self.now c.push_not_zero.new.self
    (c.in_ok-push_not_zero-in-Test.ensures ctx line))
