use Rattle.std.proofs.Common.{◌≡◌, ◌++◌, take}
use Rattle.std.specs.List.{flat_map}
use Rattle.component_keys.specs.Structures.{struct_numbers, named_by_callee}
use Rattle.composed_keys.proofs.structures.note_callees.Given as goal

abbrev pub invariant-loop-callee : goal.invariant-loop-callee
invariant-loop-callee l = l.numbers.items
    ≡ l.initial.numbers.items ++ struct_numbers l.structs (flat_map named_by_callee (take l.callee-index l.callees))
