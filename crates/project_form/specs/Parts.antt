-- What the parts of a project promise one another, and which faults there are.
use Rattle.std.specs.Prelude.{◌≡◌, ℕ, Bool, true, false, Option, Some, None, Err, List}
use Rattle.std.specs.List.{AllZip}
use Rattle.std.specs.Option.{option_map, option_or}
use Rattle.shape_data.specs.declared.program.Program.{Program}
use Rattle.c_grammar.specs.declared.tokens.places.Refusal.{Refusal}
use Rattle.c_grammar.specs.Trees.{File}
use Rattle.c_tree.specs.declared.items.Unit.{Unit as UnitValue}
use Rattle.c_tree.specs.Syntax.{unit_tree}
use Rattle.c_front.specs.Units.{IsUnitOf}
use Rattle.c_lower_rules.specs.Numbers.{FileHasIntNumbers}
use Rattle.c_lower_rules.specs.Fields.{HasCountableFields}
use Rattle.c_lower_rules.specs.Programs.{program_of}
use Rattle.project_form.specs.declared.fault.ProgramFault.{ProgramFault}
use Rattle.project_form.specs.declared.fault.ProgramFault.TheVariants as fault
use Rattle.project_form.specs.declared.fault.Refused.{Refused}
use Rattle.project_form.specs.declared.file.TextFault.{TextFault}
use Rattle.project_form.specs.declared.file.TextFault.TheVariants as text
use Rattle.project_form.specs.declared.reading.Firsts.{Firsts}
use Rattle.project_form.specs.Files.{SourceFile}
use Rattle.project_form.specs.Kept.{KeptFile, AreKeptWhereRead, sources_of}
use Rattle.project_form.specs.Reads.{Reading, NoTokens, NoFile, Tree, IsRead, Reads, first_refused, refused_in, token_refusal}
use Rattle.project_form.specs.Reads.{syntax_refusal, whole_refusal}

-- FAULTS: want of memory says nothing

-- the bytes are refused so
abbrev pub IsTextFault : List ℕ → TextFault → Type 0
IsTextFault bytes (text.Tokens refusal) = IsRead bytes (NoTokens refusal)
IsTextFault bytes (text.Syntax refusal) = IsRead bytes (NoFile refusal)
IsTextFault bytes text.OutOfMemory = Unit {0}

-- this is refused
abbrev pub IsRefused : Refused → ProgramFault → Type 0
IsRefused refused (fault.Refused found) = found ≡ refused
IsRefused refused fault.OutOfMemory = Unit {0}

-- this is refused, if anything is
abbrev pub IsFirstFault : Option Refused → ProgramFault → Type 0
IsFirstFault first (fault.Refused found) = first ≡ Some found
IsFirstFault first fault.OutOfMemory = Unit {0}

-- the files are refused so first
abbrev pub IsProgramFault : List SourceFile → ProgramFault → Type 0
IsProgramFault files (fault.Refused refused) = Reads files (Err refused)
IsProgramFault files fault.OutOfMemory = Unit {0}

-- behind a refusal the parses are kept of those files alone that have one
abbrev pub KeepsWhatIsRead : List KeptFile → ProgramFault → Type 0
KeepsWhatIsRead files (fault.Refused refused) = AreKeptWhereRead files
KeepsWhatIsRead files fault.OutOfMemory = Unit {0}

-- READING THE FILES

abbrev pub is_tree : Reading → Bool
is_tree (NoTokens refusal) = false
is_tree (NoFile refusal) = false
is_tree (Tree file) = true

-- the file is read so, and its parse is kept if it has one
pub record IsReadAs (kept : KeptFile) (reading : Reading) : Type 0 where
  pub is_read : IsRead kept.file.bytes reading
  pub is_kept : kept.is_kept ≡ is_tree reading

-- what was refused so far, or this
abbrev pub or_refused : List ℕ → Option Refusal → Option Refused → Option Refused
or_refused name refusal before = option_or before (option_map (refused_in name) refusal)

-- what a file is read as is noted
pub record IsNoted (kept : KeptFile) (old new : Firsts) : Type 0 where
  pub reading : Reading
  pub is : IsReadAs kept reading
  pub tokens : new.tokens ≡ or_refused kept.file.name (token_refusal reading) old.tokens
  pub syntax : new.syntax ≡ or_refused kept.file.name (syntax_refusal reading) old.syntax

-- what files are read as is noted
pub record AreNoted (files : List KeptFile) (firsts : Firsts) : Type 0 where
  pub readings : List Reading
  pub are : AllZip IsReadAs files readings
  pub tokens : firsts.tokens ≡ first_refused token_refusal (sources_of files) readings
  pub syntax : firsts.syntax ≡ first_refused syntax_refusal (sources_of files) readings

-- ALL FILES TOGETHER

-- the texts of the files are these trees
abbrev pub AreUnits : List KeptFile → List UnitValue → Type 0
AreUnits files units = AllZip (λ (kept : KeptFile) unit. IsUnitOf kept.file.bytes (unit_tree unit)) files units

-- what lowering asks of a file, and each file that was parsed has
pub record IsLowerable (file : File) : Type 0 where
  pub numbers : FileHasIntNumbers file
  pub fields : HasCountableFields file

-- the files with these names are this program
pub record IsWhole (names : List (List ℕ)) (files : List File) (program : Program) : Type 0 where
  pub accepted : whole_refusal names files ≡ None
  pub means : program ≡ program_of names files
