use Rattle.std.proofs.Common.{◌++◌, ◌∙◌, ap}
use Rattle.std.specs.List.{filter_map}
use Rattle.std.specs.Option.{option_to_list}
use Rattle.std.proofs.lemmas.Result.{IfOk-weaker}
use Rattle.shape_data.specs.declared.program.Node.{Node}
use Rattle.component_keys.specs.Structures.{command_struct, struct_numbers, type_struct}
use Rattle.composed_keys.proofs.Noted.{three_noted}
use Rattle.composed_keys.proofs.structures.note_flow.Goals as goal

pub returns : goal.returns
returns c =
    IfOk-weaker c.note_nodes.result _ _
    (λ u is.
    three_noted c.args.structs.now c.args.numbers.now.items c.note_types.new.numbers.items c.note_type.new.numbers.items
    c.note_nodes.new.numbers.items (filter_map type_struct c.args.flow.now.slots)
    (option_to_list (type_struct c.args.flow.now.ret)) (filter_map (λ (node : Node). command_struct node.cmd) c.args.flow.now.nodes)
    (c.in_ok-note_types.ensures
    ∙ ap (λ l. c.args.numbers.now.items
    ++ struct_numbers c.args.structs.now (filter_map type_struct l)) c.deref.ensures) c.in_ok-note_type.ensures
    (is ∙ ap (λ l. c.note_type.new.numbers.items
    ++ struct_numbers c.args.structs.now (filter_map (λ (node : Node). command_struct node.cmd) l)) c.deref-2.ensures)) c.note_nodes.ensures
