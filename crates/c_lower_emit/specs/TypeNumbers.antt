-- A number for each of some types.
use Rattle.std.specs.Prelude.{ℕ, Option}
use Rattle.shape_data.specs.declared.program.Ty.{Ty}
use Rattle.shape_data.specs.declared.program.Ty.TheVariants.{Int, Ptr, Void}
use Rattle.c_types_names.specs.NameMap.{named}
use Rattle.c_lower_emit.specs.declared.type_numbers.TypeNumbers.{TypeNumbers}

-- the number of a type, where those of pointers are found by the structure's name
abbrev pub number_in : TypeNumbers → Ty → Option ℕ
number_in numbers Int = numbers.int
number_in numbers (Ptr tag) = named numbers.of_tags tag
number_in numbers Void = numbers.void
