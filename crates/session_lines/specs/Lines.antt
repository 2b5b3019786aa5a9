-- The lines of the command stream, and the commands that lines are with the bytes behind them.
use Rattle.std.specs.Prelude.{◌≡◌, ◌≢◌, ℕ, ◌<◌, ◌≤◌, nat_le, Bool, ◌||◌, ◌==◌, if◌then◌else◌, List, [], ◌∷◌, ◌++◌, ◌⊎◌, length, codes}
use Rattle.std.specs.Prelude.{IsTrue}
use Rattle.std.specs.List.{list_all}
use Rattle.std.specs.Char.{is_ascii_alphanumeric}
use Rattle.std.specs.Fmt.{decimal}
use Rattle.shape_data.specs.Names.{IsCName}
use Rattle.session_lines.specs.declared.command.Command.{Command}
use Rattle.session_lines.specs.declared.command.Command.TheVariants as command
use Rattle.session_lines.specs.declared.command.Line.{Line}
use Rattle.session_lines.specs.declared.command.Line.TheVariants as line

-- a letter, a digit, `.`, `_`, `-` or `/`
abbrev pub is_file_byte : ℕ → Bool
is_file_byte byte = is_ascii_alphanumeric byte || byte == 46 || byte == 95 || byte == 45 || byte == 47

-- the name of a file: 1 to 64 such bytes
pub record IsFileName (name : List ℕ) : Type 0 where
  pub some : 1 ≤ length name
  pub short : length name ≤ 64
  pub each : IsTrue (list_all is_file_byte name)

-- the name of a procedure: a C name of at most 64 bytes
pub record IsProcName (name : List ℕ) : Type 0 where
  pub c_name : IsCName name
  pub short : length name ≤ 64

-- the most bytes of a file
abbrev pub MOST_FILE_BYTES : ℕ
MOST_FILE_BYTES = 1048576

-- what a line may say
abbrev pub IsLine : Line → Type 0
IsLine (line.Put name size) = IsFileName name × (size ≤ 9999999)
IsLine (line.DropFile name) = IsFileName name
IsLine (line.Show proc) = IsProcName proc
IsLine (line.Gen n) = (1 ≤ n) × (n ≤ 1000)
IsLine line.Blank = Unit {0}
IsLine line.Start = Unit {0}
IsLine line.Report = Unit {0}
IsLine line.Save = Unit {0}
IsLine line.Quit = Unit {0}

-- the bytes of a line, without its line feed
abbrev pub line_text : Line → List ℕ
line_text line.Blank = []
line_text (line.Put name size) = codes "put " ++ name ++ codes " " ++ decimal size
line_text (line.DropFile name) = codes "drop " ++ name
line_text line.Start = codes "start"
line_text (line.Show proc) = codes "show " ++ proc
line_text line.Report = codes "report"
line_text line.Save = codes "save"
line_text (line.Gen n) = codes "gen " ++ decimal n
line_text line.Quit = codes "quit"

-- how many bytes behind a line belong to it
abbrev pub body_size : Line → ℕ
body_size (line.Put name size) = size
body_size _ = 0

-- what a line asks for, with the bytes that belong to it; of a file that is too long only how long it is
abbrev pub command_of : Line → List ℕ → Command
command_of line.Blank body = command.Blank
command_of (line.Put name size) body = if nat_le size MOST_FILE_BYTES then command.Put name body else command.PutTooLong name size
command_of (line.DropFile name) body = command.DropFile name
command_of line.Start body = command.Start
command_of (line.Show proc) body = command.Show proc
command_of line.Report body = command.Report
command_of line.Save body = command.Save
command_of (line.Gen n) body = command.Gen n
command_of line.Quit body = command.Quit

-- what a command may say
abbrev pub IsCommand : Command → Type 0
IsCommand (command.Put name bytes) = IsFileName name × (length bytes ≤ MOST_FILE_BYTES)
IsCommand (command.PutTooLong name size) = IsFileName name × (MOST_FILE_BYTES < size) × (size ≤ 9999999)
IsCommand (command.DropFile name) = IsFileName name
IsCommand (command.Show proc) = IsProcName proc
IsCommand (command.Gen n) = (1 ≤ n) × (n ≤ 1000)
IsCommand command.Blank = Unit {0}
IsCommand command.Start = Unit {0}
IsCommand command.Report = Unit {0}
IsCommand command.Save = Unit {0}
IsCommand command.Quit = Unit {0}

-- the bytes begin with a line of this text and a line feed, and what stands behind is `behind`
abbrev pub IsEnded : List ℕ → List ℕ → List ℕ → Type 0
IsEnded bytes text behind = bytes ≡ text ++ 10 ∷ behind

-- the bytes are a line of this text, which the end of the input ends
abbrev pub IsLast : List ℕ → List ℕ → Type 0
IsLast bytes text = (bytes ≡ text) × (bytes ≢ [])

-- a line of this text stands first in the stream, and what stands behind it is `behind`
abbrev pub IsFirstLine : List ℕ → List ℕ → List ℕ → Type 0
IsFirstLine stream text behind = IsEnded stream text behind ⊎ (IsLast stream text × (behind ≡ []))

-- a command stands first in the stream, and what stands behind it is `rest`
pub record IsFirst (stream : List ℕ) (command : Command) (rest : List ℕ) : Type 0 where
  pub line : Line
  pub body : List ℕ
  pub allowed : IsLine line
  pub whole : length body ≡ body_size line
  pub means : command ≡ command_of line body
  pub text : IsFirstLine stream (line_text line) (body ++ rest)
