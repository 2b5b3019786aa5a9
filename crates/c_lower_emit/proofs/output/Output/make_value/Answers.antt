use Rattle.c_types_names.specs.Seen.{type_seen}
use Rattle.c_lower_emit.proofs.Using.{value_pushed}
use Rattle.c_lower_emit.proofs.output.Output.make_value.Goals as goal

pub returns : goal.returns
returns c =
    value_pushed c.args.spot.first_temp c.args.spot.line
    (type_seen c.args.kind) c.args.cmd c.args.self.now c.take.new.self c.push.new.self c.in_ok-place.place c.saturating_add-slot.result
    c.here.result c.saturating_add-behind.result c.put_to.result c.in_ok-place.ensures.temps c.in_ok-place.ensures.place
    c.saturating_add-slot.ensures c.here.ensures c.saturating_add-behind.ensures
    c.put_to.ensures c.in_ok-push.ensures
