use Rattle.std.proofs.Common.{◌≡◌, ◌++◌, take}
use Rattle.std.specs.List.{flat_map}
use Rattle.component_keys.specs.Structures.{struct_numbers, named_by_flow}
use Rattle.composed_keys.proofs.structures.note_flows.Given as goal

abbrev pub invariant-loop-flow : goal.invariant-loop-flow
invariant-loop-flow l = l.numbers.items
    ≡ l.initial.numbers.items ++ struct_numbers l.structs (flat_map named_by_flow (take l.flow-index l.flows))
