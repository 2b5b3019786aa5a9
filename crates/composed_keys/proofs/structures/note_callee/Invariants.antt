use Rattle.std.proofs.Common.{◌≡◌, ◌++◌, take}
use Rattle.std.specs.List.{flat_map}
use Rattle.component_keys.specs.Structures.{struct_numbers, named_by_spec}
use Rattle.composed_keys.proofs.structures.note_callee.Given as goal

abbrev pub invariant-loop-spec : goal.invariant-loop-spec
invariant-loop-spec l = l.numbers.items
    ≡ l.initial.numbers.items ++ struct_numbers l.structs (flat_map named_by_spec (take l.spec-index l.specs))
