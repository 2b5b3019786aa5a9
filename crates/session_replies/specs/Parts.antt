-- What the parts of a session promise one another. No contract of a call that other crates make cites it.
use Rattle.std.specs.Prelude.{ℕ, List, Result, Ok, Err}
use Rattle.std.specs.Global.{Vec}
use Rattle.std.specs.Option.{option_map}
use Rattle.std.specs.declared.option.Option.{Option}
use Rattle.shape_data.specs.declared.program.Program.{Program}
use Rattle.shape_data.specs.Sizes.{HasProgramSizes}
use Rattle.shape_data.specs.WellFormed.{IsProgram}
use Rattle.project_form.specs.declared.fault.Refused.{Refused}
use Rattle.session_replies.specs.declared.project_read.Found.{Found}
use Rattle.session_replies.specs.declared.project_read.Found.TheVariants as found

-- what files are, by value
abbrev pub answer_in : Found → Result Program Refused
answer_in (found.Whole program) = Ok program.value
answer_in (found.NoProgram refused) = Err refused

-- a program is well formed, and has the sizes of the programs that are analysed
abbrev pub IsFormed : Found → Type 0
IsFormed (found.Whole program) = IsProgram program.value × HasProgramSizes program.value
IsFormed (found.NoProgram refused) = Unit {0}

-- the bytes that a store is to have, if it is to be replaced
abbrev pub bytes_saved : Option (Vec ℕ) → Option (List ℕ)
bytes_saved saved = option_map (λ (bytes : Vec ℕ). bytes.items) saved
