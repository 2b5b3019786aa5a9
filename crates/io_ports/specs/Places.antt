-- What a keeper has under its paths. Of a path it tells nothing (`None`), that it has no such path (`Some None`), or
-- the bytes under it.
use Rattle.std.specs.Prelude.{◌≡◌, ℕ, ◌≤◌, ◌<◌, List, [], ◌∷◌, length, if◌then◌else◌}
use Rattle.std.specs.Option.{option_map, IsSomeAnd}
use Rattle.std.specs.declared.option.Option.{Option}
use Rattle.std.specs.declared.option.Option.TheVariants.{Some, None}
use Rattle.std.specs.Str.{bytes_eq}
use Rattle.std.specs.String.{string_bytes}
use Rattle.std.specs.declared.string.String.{String}
use Rattle.std.specs.Global.{Global, Vec}
use Rattle.io_ports.specs.declared.keeper.Held.{Held}
use Rattle.io_ports.specs.declared.keeper.Held.TheVariants.{Absent, TooLong, Bytes}

-- the most bytes that are read from under a path
abbrev pub MOST_HELD : ℕ
MOST_HELD = 67108864

-- bytes, and the path under which they are
pub record Stored : Type 0 where
  pub path : List ℕ
  pub bytes : List ℕ

-- the bytes under a path, if there is such a path
abbrev pub found : List Stored → List ℕ → Option (List ℕ)
found [] path = None
found (one ∷ others) path = if bytes_eq path one.path then Some one.bytes else found others path

-- an entry of the map in which a keeper in memory has its bytes
abbrev pub stored : String Global × Vec ℕ → Stored
stored entry = record { path = string_bytes entry.0; bytes = entry.1.items }

-- the path has these bytes now, where what it had was told
abbrev pub now_has : List ℕ → Option (Option (List ℕ)) → Option (Option (List ℕ))
now_has bytes told = option_map (λ _. Some bytes) told

-- what a reading answers of a path that has these bytes, or is not there
abbrev pub IsHeld : Option (List ℕ) → Held → Type 0
IsHeld there Absent = there ≡ None
IsHeld there TooLong = IsSomeAnd there (λ bytes. MOST_HELD < length bytes)
IsHeld there (Bytes bytes) = there ≡ Some bytes.items

-- no more bytes are answered than are read
abbrev pub IsWithin : Held → Type 0
IsWithin Absent = Unit {0}
IsWithin TooLong = Unit {0}
IsWithin (Bytes bytes) = length bytes.items ≤ MOST_HELD
