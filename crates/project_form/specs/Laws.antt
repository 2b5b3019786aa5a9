-- What the laws of projects say.
use Rattle.std.specs.Prelude.{◌≡◌, ℕ, Result, Ok, None, List, []}
use Rattle.shape_data.specs.declared.program.Program.{Program}
use Rattle.shape_data.specs.Sizes.{HasProgramSizes}
use Rattle.shape_data.specs.WellFormed.{IsProgram}
use Rattle.project_form.specs.declared.fault.Refused.{Refused}
use Rattle.project_form.specs.Files.{SourceFile, AreFiles, put_refusal, with_file, without_file}
use Rattle.project_form.specs.Reads.{Reads}

-- files are one program at most, or refused at one place, and never both
abbrev pub HaveOneAnswer : Type 0
HaveOneAnswer = (files : List SourceFile) (one other : Result Program Refused) → Reads files one → Reads files other → one ≡ other

-- files are a program, or refused
abbrev pub HaveAnswer : Type 0
HaveAnswer = (files : List SourceFile) → (answer : Result Program Refused) × Reads files answer

-- a program that files are is well formed
abbrev pub HaveWellFormed : Type 0
HaveWellFormed = (files : List SourceFile) (program : Program) → AreFiles files → Reads files (Ok program) → IsProgram program

-- a program that files are has the sizes of the programs that are analysed
abbrev pub AnswersHaveSizes : Type 0
AnswersHaveSizes = (files : List SourceFile) (program : Program) → Reads files (Ok program) → HasProgramSizes program

-- no file is few enough, and putting and dropping keep within the limits
pub record KeepLimits : Type 0 where
  pub none : AreFiles []
  pub put : (name bytes : List ℕ) (files : List SourceFile) → AreFiles files → put_refusal name bytes files ≡ None
      → AreFiles (with_file name bytes files)
  pub dropped : (name : List ℕ) (files : List SourceFile) → AreFiles files → AreFiles (without_file name files)
