use Rattle.std.proofs.Common.{◌≡◌, ◌++◌, take}
use Rattle.std.specs.List.{filter_map}
use Rattle.component_keys.specs.Structures.{struct_numbers, type_struct}
use Rattle.composed_keys.proofs.structures.note_types.Given as goal

abbrev pub invariant-loop-ty : goal.invariant-loop-ty
invariant-loop-ty l = l.numbers.items
    ≡ l.initial.numbers.items ++ struct_numbers l.structs (filter_map type_struct (take l.ty-index l.types))
