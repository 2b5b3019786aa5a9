use Rattle.std.proofs.Common.{[], ◌++◌, ◌∙◌, ap}
use Rattle.std.specs.List.{flat_map}
use Rattle.component_keys.specs.Structures.{named_by_callee, named_by_flow, struct_numbers}
use Rattle.composed_keys.proofs.Noted.{two_noted}
use Rattle.composed_keys.proofs.structures.named.Goals as goal

pub returns : goal.returns
returns c =
    two_noted c.args.structs.now [] c.note_flows.new.numbers.items c.note_callees.new.numbers.items
    (flat_map named_by_flow c.args.flows.now) (flat_map named_by_callee c.args.callees.now)
    (c.in_ok-note_flows.ensures
    ∙ ap (λ l. l
    ++ struct_numbers c.args.structs.now
    (flat_map named_by_flow c.args.flows.now)) c.new-numbers.ensures.items) c.in_ok-note_callees.ensures
