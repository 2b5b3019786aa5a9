-- A stream has one list of commands and one end.
use Rattle.std.specs.Prelude.{◌≡◌, ℕ, List}
use Rattle.session_lines.specs.declared.command.Command.{Command}
use Rattle.session_lines.specs.Lines.{IsFirst}
use Rattle.session_lines.specs.Sessions.{Ending, IsSession}

-- at most one command stands first in a stream
abbrev pub OneFirst : Type 0
OneFirst = (stream rest rest' : List ℕ) (one other : Command) → IsFirst stream one rest → IsFirst stream other rest'
    → (one ≡ other) × (rest ≡ rest')

-- a stream has at most one list of commands, and one end
abbrev pub OneSession : Type 0
OneSession = (stream : List ℕ) (ones others : List Command) (one other : Ending) → IsSession stream ones one → IsSession stream others other
    → (ones ≡ others) × (one ≡ other)

-- a stream has a list of commands, and an end
abbrev pub SomeSession : Type 0
SomeSession = (stream : List ℕ) → (commands : List Command) × (ending : Ending) × IsSession stream commands ending
