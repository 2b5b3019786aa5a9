-- The program that the files of a project are, or where the project is refused first. Each text is read by the grammars of tokens
-- and of syntax; types and lowering are those of all files together.
use Rattle.std.specs.Prelude.{◌≡◌, ℕ, Option, Some, None, Result, Ok, Err, List, [], ◌∷◌, map, slice_get, slice_index_or, Bool, true, false}
use Rattle.std.specs.List.{AllZip}
use Rattle.std.specs.Option.{option_map, option_or}
use Rattle.shape_data.specs.declared.program.Proc.{Proc}
use Rattle.shape_data.specs.declared.program.Program.{Program}
use Rattle.c_grammar.specs.declared.tokens.places.Refusal.{Refusal}
use Rattle.c_grammar.specs.declared.tokens.token.Token.{Token}
use Rattle.c_grammar.specs.Tokens.Grammar.{HasTokens, Refuses}
use Rattle.c_grammar.specs.Refusals.{RefusedAt}
use Rattle.c_grammar.specs.Trees.{File}
use Rattle.c_grammar.specs.Words.{words_of}
use Rattle.c_types_rules.specs.declared.at.At.{At}
use Rattle.c_types_rules.specs.Programs.{first_refusal}
use Rattle.c_front.specs.Units.{IsUnitOf}
use Rattle.c_lower_rules.specs.Programs.{first_too_large, program_of}
use Rattle.project_form.specs.declared.fault.Refused.{Refused}
use Rattle.project_form.specs.Files.{SourceFile}

-- ONE FILE

-- what a text is read as
pub data Reading : Type 0 where
  -- it has no tokens: this is its first refusal
  NoTokens : Refusal → Reading
  -- it has tokens, and they begin no file: this is the first refusal
  NoFile : Refusal → Reading
  -- it is this file
  Tree : File → Reading

-- the text is read so
abbrev pub IsRead : List ℕ → Reading → Type 0
IsRead text (NoTokens refusal) = Refuses text refusal
IsRead text (NoFile refusal) = (tokens : List Token) × HasTokens text tokens × RefusedAt (words_of tokens) refusal
IsRead text (Tree file) = IsUnitOf text file

-- the refusal of tokens
abbrev pub token_refusal : Reading → Option Refusal
token_refusal (NoTokens refusal) = Some refusal
token_refusal (NoFile refusal) = None
token_refusal (Tree file) = None

-- the refusal of syntax
abbrev pub syntax_refusal : Reading → Option Refusal
syntax_refusal (NoTokens refusal) = None
syntax_refusal (NoFile refusal) = Some refusal
syntax_refusal (Tree file) = None

-- REFUSALS

-- a refusal in the file of this name, but for its column
abbrev pub refused_in : List ℕ → Refusal → Refused
refused_in name refusal = record { file = name; line = refusal.line; code = refusal.code }

-- the first of the files that is refused for this
abbrev pub first_refused : (Reading → Option Refusal) → List SourceFile → List Reading → Option Refused
first_refused stage (file ∷ files) (reading ∷ readings) =
    option_or (option_map (refused_in file.name) (stage reading)) (first_refused stage files readings)
first_refused stage _ _ = None

-- the name of the file with this number
abbrev pub name_at : List (List ℕ) → ℕ → List ℕ
name_at names unit = slice_index_or names unit []

-- a refusal in one of the files with these names
abbrev pub refused_at : List (List ℕ) → At → Refused
refused_at names at = refused_in (name_at names at.unit) at.refusal

-- how many procedures a program may have
abbrev pub MOST_PROCEDURES : ℕ
MOST_PROCEDURES = 1024

-- the code of one more
abbrev pub TOO_MANY : ℕ
TOO_MANY = 142

-- a procedure too many is refused in its file, on the line of its first token
abbrev pub refused_proc : Proc → Refused
refused_proc proc = record { file = proc.file; line = proc.line; code = TOO_MANY }

-- where files with these names are refused: for their types, else for what is too large, else for the first procedure too many
abbrev pub whole_refusal : List (List ℕ) → List File → Option Refused
whole_refusal names files =
    option_or (option_map (refused_at names) (first_refusal files))
    (option_or (option_map (refused_at names) (first_too_large files))
    (option_map refused_proc (slice_get (program_of names files).procs MOST_PROCEDURES)))

-- PROGRAMS

-- the names of files
abbrev pub name_of : SourceFile → List ℕ
name_of file = file.name

abbrev pub names_of : List SourceFile → List (List ℕ)
names_of files = map name_of files

-- the trees of those texts that are files
abbrev pub trees_of : List Reading → List File
trees_of [] = []
trees_of (NoTokens refusal ∷ readings) = trees_of readings
trees_of (NoFile refusal ∷ readings) = trees_of readings
trees_of (Tree file ∷ readings) = file ∷ trees_of readings

-- where files that are read so are refused first: the first file that has no tokens, else the first that is no file, else as a whole
abbrev pub refusal_of : List SourceFile → List Reading → Option Refused
refusal_of files readings =
    option_or (first_refused token_refusal files readings)
    (option_or (first_refused syntax_refusal files readings)
    (whole_refusal (names_of files) (trees_of readings)))

-- a program that is refused there, if it is
abbrev pub unless_refused : Option Refused → Program → Result Program Refused
unless_refused None program = Ok program
unless_refused (Some refused) program = Err refused

-- the program that files are that are read so, or the first refusal
abbrev pub answer_of : List SourceFile → List Reading → Result Program Refused
answer_of files readings = unless_refused (refusal_of files readings) (program_of (names_of files) (trees_of readings))

-- the text of each file is read so
abbrev pub AreReadings : List SourceFile → List Reading → Type 0
AreReadings files readings = AllZip (λ (file : SourceFile) reading. IsRead file.bytes reading) files readings

-- the files are this program, or are refused first there
pub record Reads (files : List SourceFile) (answer : Result Program Refused) : Type 0 where
  pub readings : List Reading
  pub read : AreReadings files readings
  pub means : answer ≡ answer_of files readings
