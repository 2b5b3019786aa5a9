use Rattle.std.proofs.Common.{◌≡◌, ◌++◌, take}
use Rattle.std.specs.List.{filter_map}
use Rattle.component_keys.specs.Structures.{struct_numbers, atom_struct}
use Rattle.composed_keys.proofs.structures.note_heap.Given as goal

abbrev pub invariant-loop-atom : goal.invariant-loop-atom
invariant-loop-atom l = l.numbers.items
    ≡ l.initial.numbers.items ++ struct_numbers l.structs (filter_map atom_struct (take l.atom-index l.atoms))
