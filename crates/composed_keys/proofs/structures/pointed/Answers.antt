use Rattle.std.proofs.Common.{[]}
use Rattle.component_keys.specs.Structures.{type_struct}
use Rattle.shape_data.specs.declared.program.Field.{Field}
use Rattle.composed_keys.proofs.Noted.{more_named}
use Rattle.composed_keys.proofs.structures.pointed.Goals as goal

pub loop-field-preserved : goal.loop-field-preserved
loop-field-preserved c =
    more_named c.args.structs.now
    (λ (field : Field). type_struct field.ty) c.as_slice-fields.result.now c.loop-field.field-index c.field-item.result []
    c.loop-field.numbers.items c.note_type.new.numbers.items c.loop-field.invariant c.loop-field-test.true c.field-item.is
    c.in_ok-note_type.ensures
