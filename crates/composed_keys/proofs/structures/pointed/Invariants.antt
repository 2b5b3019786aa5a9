use Rattle.std.proofs.Common.{◌≡◌, take}
use Rattle.std.specs.List.{filter_map}
use Rattle.component_keys.specs.Structures.{struct_numbers, type_struct}
use Rattle.shape_data.specs.declared.program.Field.{Field}
use Rattle.composed_keys.proofs.structures.pointed.Given as goal

abbrev pub invariant-loop-field : goal.invariant-loop-field
invariant-loop-field l = l.numbers.items
    ≡ struct_numbers l.structs (filter_map (λ (field : Field). type_struct field.ty) (take l.field-index l.fields))
