use Rattle.component_keys.specs.Structures.{type_struct}
use Rattle.composed_keys.proofs.Noted.{more_named}
use Rattle.composed_keys.proofs.structures.note_types.Goals as goal

pub loop-ty-preserved : goal.loop-ty-preserved
loop-ty-preserved c =
    more_named c.args.structs.now type_struct c.args.types.now c.loop-ty.ty-index c.ty-item.result c.args.numbers.now.items
    c.loop-ty.numbers.items c.note_type.new.numbers.items c.loop-ty.invariant c.loop-ty-test.true c.ty-item.is
    c.in_ok-note_type.ensures
