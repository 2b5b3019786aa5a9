-- The commands of a stream, and how it ends.
use Rattle.std.specs.Prelude.{◌≢◌, ℕ, ◌+◌, ◌-◌, ◌<◌, ◌≤◌, List, [], ◌∷◌, length}
use Rattle.session_lines.specs.declared.command.Command.{Command}
use Rattle.session_lines.specs.declared.command.Command.TheVariants as command
use Rattle.session_lines.specs.Lines.{IsFirst}

-- the most commands of a session
abbrev pub MOST_COMMANDS : ℕ
MOST_COMMANDS = 65536

-- how a stream of commands ends
pub data Ending : Type 0 where
  -- behind the last command nothing is left
  End : Ending
  -- with the command to end
  Quit : Ending
  -- with what is no command: its number, from 1, and the offset of its first byte
  Malformed : ℕ → ℕ → Ending
  -- with a byte behind as many commands as there may be
  Full : Ending

-- no command stands first in the stream
abbrev pub BeginsWithNone : List ℕ → Type 0
BeginsWithNone stream = (command : Command) (rest : List ℕ) → IsFirst stream command rest → ⊥

-- the stream, behind so many commands of so many bytes, has these commands and this end; a command to end is not listed
pub data HasCommands : (taken offset : ℕ) → List ℕ → List Command → Ending → Type 0 where
  end : (taken offset : ℕ) → HasCommands taken offset [] [] End
  full : (taken offset : ℕ) (stream : List ℕ) → stream ≢ [] → MOST_COMMANDS ≤ taken → HasCommands taken offset stream [] Full
  malformed : (taken offset : ℕ) (stream : List ℕ) → stream ≢ [] → taken < MOST_COMMANDS → BeginsWithNone stream
      → HasCommands taken offset stream [] (Malformed (taken + 1) offset)
  quit : (taken offset : ℕ) (stream rest : List ℕ) → taken < MOST_COMMANDS → IsFirst stream command.Quit rest
      → HasCommands taken offset stream [] Quit
  more : (taken offset : ℕ) (stream rest : List ℕ) (first : Command) (others : List Command) (ending : Ending)
      → taken < MOST_COMMANDS → first ≢ command.Quit → IsFirst stream first rest
      → HasCommands (taken + 1) (offset + (length stream - length rest)) rest others ending
      → HasCommands taken offset stream (first ∷ others) ending

-- the whole stream has these commands and this end
abbrev pub IsSession : List ℕ → List Command → Ending → Type 0
IsSession stream commands ending = HasCommands 0 0 stream commands ending
