-- What callers see of a reader of commands, and what one call of it does.
use Rattle.std.specs.Prelude.{◌≡◌, ◌≢◌, ℕ, ◌+◌, ◌-◌, ◌<◌, ◌≤◌, Option, Some, List, [], length}
use Rattle.io_ports.specs.Bytes.{before_left}
use Rattle.session_lines.specs.declared.command.Command.{Command}
use Rattle.session_lines.specs.declared.command.Taken.{Taken}
use Rattle.session_lines.specs.declared.command.Taken.TheVariants as taken
use Rattle.session_lines.specs.Lines.{IsCommand, IsFirst}
use Rattle.session_lines.specs.Sessions.{BeginsWithNone, MOST_COMMANDS}

-- the bytes that were read and not taken yet, and how many commands of how many bytes were taken
pub record Reading : Type 0 where
  pub ahead : List ℕ
  pub taken : ℕ
  pub offset : ℕ

-- the stream that is left: the bytes that were read and not taken, and those that the source has left
abbrev pub stream_left : Reading → Option (List ℕ) → Option (List ℕ)
stream_left reading left = before_left reading.ahead left

-- one command of so many bytes was taken
pub record IsOneMore (old new : Reading) (size : ℕ) : Type 0 where
  pub few : old.taken < MOST_COMMANDS
  pub taken : new.taken ≡ old.taken + 1
  pub offset : new.offset ≡ old.offset + size

-- the command stands first in the stream, and what stands behind it is left
pub record IsTaken (old new : Reading) (stream : List ℕ) (left : Option (List ℕ)) (command : Command) : Type 0 where
  pub rest : List ℕ
  pub is_left : left ≡ Some rest
  pub first : IsFirst stream command rest
  pub counted : IsOneMore old new (length stream - length rest)

-- what stands first in the stream is no command, and has this number and this offset
pub record IsMalformed (old : Reading) (stream : List ℕ) (number offset : ℕ) : Type 0 where
  pub some : stream ≢ []
  pub few : old.taken < MOST_COMMANDS
  pub none : BeginsWithNone stream
  pub is_number : number ≡ old.taken + 1
  pub is_offset : offset ≡ old.offset

-- this was taken from the stream, and this is left of it
abbrev pub Takes : Reading → Reading → List ℕ → Option (List ℕ) → Taken → Type 0
Takes old new stream left (taken.Command command) = IsTaken old new stream left command
Takes old new stream left taken.End = stream ≡ []
Takes old new stream left (taken.Malformed number offset) = IsMalformed old stream number offset
Takes old new stream left taken.Full = (stream ≢ []) × (MOST_COMMANDS ≤ old.taken)
Takes old new stream left taken.ReadFault = Unit {0}

-- no command was taken: as many commands, of as many bytes, are counted as before
abbrev pub IsNoneMore : Reading → Reading → Type 0
IsNoneMore old new = (new.taken ≡ old.taken) × (new.offset ≡ old.offset)

-- a command that is taken is counted, is none too many, and says what it may; where none is taken, none is counted
abbrev pub IsCounted : Reading → Reading → Taken → Type 0
IsCounted old new (taken.Command command) = (old.taken < MOST_COMMANDS) × (new.taken ≡ old.taken + 1) × IsCommand command
IsCounted old new _ = IsNoneMore old new
