-- When the type checker gives which answer.
use Rattle.std.specs.Prelude.{◌≡◌, Some, List}
use Rattle.c_grammar.specs.Trees.{File}
use Rattle.c_types_rules.specs.Programs.{first_refusal}
use Rattle.c_types.specs.declared.fault.UnitsFault.{UnitsFault}
use Rattle.c_types.specs.declared.fault.UnitsFault.TheVariants.{Refused, OutOfMemory}

-- a refusal is the program's first one; want of memory says nothing
abbrev pub IsFault : List File → UnitsFault → Type 0
IsFault files (Refused at) = first_refusal files ≡ Some at
IsFault files OutOfMemory = Unit {0}
