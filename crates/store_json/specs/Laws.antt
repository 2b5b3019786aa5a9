-- Laws of reading and writing stores.
use Rattle.std.specs.Prelude.{◌≡◌, ◌≤◌, ℕ, List, length, map, All}
use Rattle.std.specs.declared.result.Result.{Result}
use Rattle.std.specs.declared.result.Result.TheVariants.{Ok}
use Rattle.claim_core.specs.Views.{Solution}
use Rattle.store_json.specs.Entries.{as_stored, Fits, IsStorable}
use Rattle.store_json.specs.Reading.{IsRead}
use Rattle.store_json.specs.Texts.{store_text}
use Rattle.store_json.specs.declared.reading.Unread.{Unread}

-- bytes are read in one way alone
abbrev pub OneReading : Type 0
OneReading = (bytes : List ℕ) (one other : Result (List Solution) Unread) → IsRead bytes one → IsRead bytes other → one ≡ other

-- and in some way
abbrev pub SomeReading : Type 0
SomeReading = (bytes : List ℕ) → (found : Result (List Solution) Unread) × IsRead bytes found

-- what is written is read back, each answer marked as stored
abbrev pub StoresAreReadBack : Type 0
StoresAreReadBack =
    (entries : List Solution) → All IsStorable entries → All Fits entries → IsRead (store_text entries) (Ok (map as_stored entries))

-- what is read has no more entries than there are bytes
abbrev pub EntriesAreFew : Type 0
EntriesAreFew = (bytes : List ℕ) (entries : List Solution) → IsRead bytes (Ok entries) → length entries ≤ length bytes
