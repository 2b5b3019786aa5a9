use Rattle.std.proofs.Common.{◌≡◌, ◌++◌, take}
use Rattle.std.specs.List.{filter_map}
use Rattle.component_keys.specs.Structures.{struct_numbers, command_struct}
use Rattle.shape_data.specs.declared.program.Node.{Node}
use Rattle.composed_keys.proofs.structures.note_nodes.Given as goal

abbrev pub invariant-loop-node : goal.invariant-loop-node
invariant-loop-node l = l.numbers.items
    ≡ l.initial.numbers.items
    ++ struct_numbers l.structs (filter_map (λ (node : Node). command_struct node.cmd) (take l.node-index l.nodes))
