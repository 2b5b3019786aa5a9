-- The store that the words name: what a session begins with, and what the store has when it ends.
use Rattle.std.specs.Prelude.{◌≡◌, ℕ, ◌<◌, ◌≤◌, Bool, true, false, List, [], ◌++◌, codes, length}
use Rattle.std.specs.Option.{option_map}
use Rattle.std.specs.declared.option.Option.{Option}
use Rattle.std.specs.declared.option.Option.TheVariants.{None, Some}
use Rattle.std.specs.declared.result.Result.TheVariants.{Ok, Err}
use Rattle.io_ports.specs.Places.{MOST_HELD, now_has}
use Rattle.report_text.specs.Report.{line_of}
use Rattle.store_json.specs.declared.reading.Unread.{Unread}
use Rattle.summary_store.specs.Loading.{Contents, IsLoaded}
use Rattle.session_lines.specs.declared.command.Command.{Command}
use Rattle.session_lines.specs.Lines.{IsFirst}
use Rattle.session_lines.specs.Sessions.{MOST_COMMANDS}
use Rattle.session_replies.specs.Answers.{Setting}
use Rattle.session_replies.specs.Saves.{Saves}
use Rattle.heapan_top.specs.declared.status.Status.{Status}
use Rattle.heapan_top.specs.Replies.{Course, Replies, beginning}

-- WHAT A SESSION BEGINS WITH

-- the store of a session: none is named (`None`), there is nothing under its path yet (`Some None`), or these bytes are there
abbrev pub Store : Type 0
Store = Option (Option (List ℕ))

-- the store that is found under the path that is named, if one is, where the keeper tells what it has there
abbrev pub store_told : (List ℕ → Option (Option (List ℕ))) → Option (List ℕ) → Option Store
store_told kept None = Some None
store_told kept (Some path) = option_map Some (kept path)

-- what the path that is named has, where one is, and the keeper tells it
abbrev pub path_told : (List ℕ → Option (Option (List ℕ))) → Option (List ℕ) → Option (Option (List ℕ))
path_told kept None = None
path_told kept (Some path) = kept path

-- what every other path has stays
abbrev pub KeepsOthers : Option (List ℕ) → (List ℕ → Option (Option (List ℕ))) → (List ℕ → Option (Option (List ℕ))) → Type 0
KeepsOthers path kept kept' = (other : List ℕ) → (path ≡ Some other → ⊥) → kept' other ≡ kept other

-- nothing was loaded; there is a store to save to
abbrev pub nothing_loaded : Setting
nothing_loaded = record { loaded = []; saves = true }

-- what is written before any reply where the bytes of the store are none
abbrev pub unread_line : List ℕ
unread_line = line_of (codes "store unread")

-- that line, or nothing
abbrev pub front_of : Bool → List ℕ
front_of true = unread_line
front_of false = []

-- with such a store a session begins so, and this is written before any reply
pub data Opens : Store → Setting → List ℕ → Type 0 where
  no_store : Opens None (record { loaded = []; saves = false }) []
  absent : Opens (Some None) nothing_loaded []
  too_long : (bytes : List ℕ) → MOST_HELD < length bytes → Opens (Some (Some bytes)) nothing_loaded unread_line
  unread : (bytes : List ℕ) (why : Unread) → length bytes ≤ MOST_HELD → IsLoaded bytes (Err why) →
      Opens (Some (Some bytes)) nothing_loaded unread_line
  -- the entries that are inductive were loaded, whoever wrote them
  loaded : (bytes : List ℕ) (contents : Contents) → length bytes ≤ MOST_HELD → IsLoaded bytes (Ok contents) →
      Opens (Some (Some bytes)) (record { loaded = contents.entries; saves = true }) []

-- with such a store a stream is answered with these bytes, and the call ends so
pub record RepliesWith (store : Store) (stream text : List ℕ) (ended : Status) : Type 0 where
  pub setting : Setting
  pub front : List ℕ
  pub others : List ℕ
  pub opens : Opens store setting front
  pub replies : Replies (beginning setting) stream others ended
  pub text_is : text ≡ front ++ others

-- WHAT THE STORE HAS WHEN A SESSION ENDS

-- what a path has when it was last given such bytes, if it was
abbrev pub given_last : Option (List ℕ) → Option (Option (List ℕ)) → Option (Option (List ℕ))
given_last None told = told
given_last (Some bytes) told = now_has bytes told

-- of two times the later one counts
abbrev pub last_of : Option (List ℕ) → Option (List ℕ) → Option (List ℕ)
last_of one None = one
last_of one (Some bytes) = Some bytes

-- the first command of the stream is answered so that the store has these bytes
pub record SavesNext (course : Course) (stream bytes : List ℕ) : Type 0 where
  pub rest : List ℕ
  pub asked : Command
  pub few : course.taken < MOST_COMMANDS
  pub first : IsFirst stream asked rest
  pub saves : Saves course.present asked (Some bytes)
