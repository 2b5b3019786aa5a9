-- What the parts of the reader promise one another. No contract of a call that other crates make cites it.
use Rattle.std.specs.Prelude.{◌≡◌, ◌≢◌, ℕ, ◌+◌, ◌<◌, ◌≤◌, Option, Some, None, List, [], ◌∷◌, ◌++◌, All, IfSome, length, take, drop}
use Rattle.io_ports.specs.Bytes.{before_left}
use Rattle.session_lines.specs.declared.command.Line.{Line}
use Rattle.session_lines.specs.declared.command.Taken.{Taken}
use Rattle.session_lines.specs.declared.command.Taken.TheVariants as taken
use Rattle.session_lines.specs.declared.reading.Behind.{Behind}
use Rattle.session_lines.specs.declared.reading.Behind.TheVariants as behind
use Rattle.session_lines.specs.declared.reading.Body.{Body}
use Rattle.session_lines.specs.declared.reading.Body.TheVariants as body
use Rattle.session_lines.specs.declared.reading.FirstLine.{FirstLine}
use Rattle.session_lines.specs.declared.reading.FirstLine.TheVariants as first
use Rattle.session_lines.specs.declared.reading.Passed.{Passed}
use Rattle.session_lines.specs.declared.reading.Passed.TheVariants as passed
use Rattle.session_lines.specs.Reading.{Reading, IsNoneMore, IsOneMore}
use Rattle.session_lines.specs.Lines.{IsLine, body_size, command_of, line_text}

-- the byte stands nowhere in the bytes
abbrev pub IsAbsent : ℕ → List ℕ → Type 0
IsAbsent byte bytes = All (λ b. b ≢ byte) bytes

-- the first such byte stands there
pub record IsFirstAt (byte : ℕ) (bytes : List ℕ) (place : ℕ) : Type 0 where
  pub text : bytes ≡ take place bytes ++ byte ∷ drop (place + 1) bytes
  pub first : IsAbsent byte (take place bytes)
  pub within : place < length bytes

-- the text is this line, or none
abbrev pub IsLineIn : List ℕ → Option Line → Type 0
IsLineIn text None = (line : Line) → IsLine line → text ≢ line_text line
IsLineIn text (Some line) = IsLine line × (text ≡ line_text line)

-- how many bytes of a line are looked at
abbrev pub MOST_LINE_BYTES : ℕ
MOST_LINE_BYTES = 256

-- the first line ends so, of which these bytes were read
abbrev pub EndsSo : List ℕ → FirstLine → Type 0
EndsSo ahead (first.Ended place) = IsFirstAt 10 ahead place × (place ≤ MOST_LINE_BYTES)
EndsSo ahead first.Last = IsAbsent 10 ahead × (length ahead ≤ MOST_LINE_BYTES)
EndsSo ahead first.TooLong = IsAbsent 10 (take (MOST_LINE_BYTES + 1) ahead) × (MOST_LINE_BYTES < length ahead)
EndsSo ahead first.Failed = Unit {0}

-- so many bytes were taken from the stream, or it has not as many
abbrev pub IsBody : ℕ → Option (List ℕ) → Option (List ℕ) → Body → Type 0
IsBody size old new (body.Whole bytes) = (old ≡ before_left bytes.items new) × (length bytes.items ≡ size)
IsBody size old new body.Short = IfSome old (λ bytes. length bytes < size)
IsBody size old new body.Failed = Unit {0}

-- the same of bytes that were not kept
abbrev pub IsPassed : ℕ → Option (List ℕ) → Option (List ℕ) → Passed → Type 0
IsPassed size old new passed.Whole = (bytes : List ℕ) × (old ≡ before_left bytes new) × (length bytes ≡ size)
IsPassed size old new passed.Short = IfSome old (λ bytes. length bytes < size)
IsPassed size old new passed.Failed = Unit {0}

-- the command behind the last one that may come: a byte more is one too many
abbrev pub IsEndOrFull : List ℕ → Taken → Type 0
IsEndOrFull stream taken.End = stream ≡ []
IsEndOrFull stream taken.Full = stream ≢ []
IsEndOrFull stream taken.ReadFault = Unit {0}
IsEndOrFull stream (taken.Command command) = ⊥
IsEndOrFull stream (taken.Malformed number offset) = ⊥

-- no command was taken
abbrev pub IsNoCommand : Taken → Type 0
IsNoCommand (taken.Command command) = ⊥
IsNoCommand _ = Unit {0}

-- the line is this command with the bytes behind it, which were taken; or the stream has not as many
abbrev pub IsBehind : Line → Option (List ℕ) → Option (List ℕ) → Behind → Type 0
IsBehind line old new (behind.Command command) =
    (bytes : List ℕ) × (old ≡ before_left bytes new) × (length bytes ≡ body_size line) × (command ≡ command_of line bytes)
IsBehind line old new behind.Short = IfSome old (λ bytes. length bytes < body_size line)
IsBehind line old new behind.Failed = Unit {0}

-- the command that a line is, with the line's so many bytes, was taken; or the line is none, or its bytes are too few, and none is counted
abbrev pub TakesLine : Option Line → ℕ → Reading → Reading → Option (List ℕ) → Option (List ℕ) → Taken → Type 0
TakesLine None size old new before after answer = (answer ≡ taken.Malformed (old.taken + 1) old.offset) × IsNoneMore old new
TakesLine (Some line) size old new before after (taken.Command command) =
    IsBehind line before after (behind.Command command) × IsOneMore old new (size + body_size line)
TakesLine (Some line) size old new before after (taken.Malformed number offset) =
    IsBehind line before after behind.Short × (number ≡ old.taken + 1) × (offset ≡ old.offset) × IsNoneMore old new
TakesLine (Some line) size old new before after taken.ReadFault = IsNoneMore old new
TakesLine (Some line) size old new before after taken.End = ⊥
TakesLine (Some line) size old new before after taken.Full = ⊥
