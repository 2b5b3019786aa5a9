-- Of which program the procedures are kept, and which fault lowering may give.
use Rattle.std.specs.Prelude.{◌≡◌, ℕ, Some, List, take}
use Rattle.shape_data.specs.declared.program.Program.{Program}
use Rattle.c_grammar.specs.Trees.{File}
use Rattle.c_types.specs.declared.fault.UnitsFault.{UnitsFault}
use Rattle.c_types.specs.declared.fault.UnitsFault.TheVariants.{Refused, OutOfMemory}
use Rattle.c_lower_rules.specs.Programs.{first_too_large}

-- a program of which only so many procedures are kept, the first ones
abbrev pub with_first : ℕ → Program → Program
with_first most program = record program { procs = take most program.procs }

-- what is refused comes first of all that is too large; want of memory says nothing
abbrev pub IsLowerFault : List File → UnitsFault → Type 0
IsLowerFault files (Refused at) = first_too_large files ≡ Some at
IsLowerFault files OutOfMemory = Unit {0}
