-- The sizes of the programs that are analysed, which the front end keeps: structures of at most sixteen fields; and procedures of at most
-- 48 slots, which are 32 for parameters and locals together, and sixteen temporaries.
use Rattle.std.specs.Prelude.{◌≤◌, length, All}
use Rattle.shape_data.specs.declared.answer.Key.{Key}
use Rattle.shape_data.specs.declared.program.Flow.{Flow}
use Rattle.shape_data.specs.declared.program.Proc.{Proc}
use Rattle.shape_data.specs.declared.program.Program.{Program}
use Rattle.shape_data.specs.declared.program.StructDef.{StructDef}

-- a structure has few fields
abbrev pub IsNarrow : StructDef → Type 0
IsNarrow def = length def.fields ≤ 16

-- a procedure has few slots
abbrev pub HasFewSlots : Flow → Type 0
HasFewSlots flow = length flow.slots ≤ 48

-- a program has these sizes
pub record HasProgramSizes (program : Program) : Type 0 where
  pub structs : All IsNarrow program.structs
  pub procs : All (λ (proc : Proc). HasFewSlots proc.flow) program.procs

-- so has a key
pub record HasKeySizes (key : Key) : Type 0 where
  pub structs : All IsNarrow key.structs
  pub procs : All HasFewSlots key.procs
