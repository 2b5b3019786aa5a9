-- What bytes are read as: the entries of the one store that they are, or why they are none.
use Rattle.std.specs.Prelude.{◌≡◌, ℕ, List, map, All, IsUtf8}
use Rattle.std.specs.declared.option.Option.{Option}
use Rattle.std.specs.declared.option.Option.TheVariants.{None, Some}
use Rattle.std.specs.declared.result.Result.{Result}
use Rattle.std.specs.declared.result.Result.TheVariants.{Ok, Err}
use Rattle.serde_json.specs.Data.{Data}
use Rattle.serde_json.specs.Read.{read}
use Rattle.shape_data.specs.declared.answer.Kept.{Kept}
use Rattle.claim_core.specs.Views.{Solution, solutions_of}
use Rattle.store_json.specs.Entries.{Fits, IsReadEntry, IsStorable}
use Rattle.store_json.specs.Texts.{entry_data, store_data, store_object, with_trailer}
use Rattle.store_json.specs.declared.reading.Unread.{Unread}
use Rattle.store_json.specs.declared.reading.Unread.TheVariants.{Trailer, Json, Format}

-- a text is the JSON of a value (RFC 8259, in UTF-8), as `serde_json` reads it: at most 127 levels deep
abbrev pub IsJson : List ℕ → Data → Type 0
IsJson text d = IsUtf8 text × (read text ≡ Some d)

-- bytes are a text with its trailer, or none with its trailer
abbrev pub IsTextOf : List ℕ → Option (List ℕ) → Type 0
IsTextOf bytes (Some text) = with_trailer text ≡ bytes
IsTextOf bytes None = (text : List ℕ) → with_trailer text ≡ bytes → ⊥

-- a text is the JSON of a value, or of none
abbrev pub IsJsonOf : List ℕ → Option Data → Type 0
IsJsonOf text (Some d) = IsJson text d
IsJsonOf text None = (d : Data) → IsJson text d → ⊥

-- a value is an entry of a store, or none is written so
abbrev pub IsEntryOf : Data → Option Solution → Type 0
IsEntryOf d (Some entry) = IsReadEntry entry × (entry_data entry ≡ d)
IsEntryOf d None = (entry : Solution) → IsStorable entry → Fits entry → entry_data entry ≡ d → ⊥

-- values are those of these entries, or of none
abbrev pub AreEntriesOf : List Data → Option (List Solution) → Type 0
AreEntriesOf ds (Some entries) = All IsReadEntry entries × (map entry_data entries ≡ ds)
AreEntriesOf ds None = (entries : List Solution) → All IsStorable entries → All Fits entries → map entry_data entries ≡ ds → ⊥

-- a value is a store with these values of entries, or with none
abbrev pub AreValuesOf : Data → Option (List Data) → Type 0
AreValuesOf d (Some ds) = store_object ds ≡ d
AreValuesOf d None = (ds : List Data) → store_object ds ≡ d → ⊥

-- a value is a store with these entries, or no store is written so
abbrev pub IsStoreOf : Data → Option (List Solution) → Type 0
IsStoreOf d (Some entries) = All IsReadEntry entries × (store_data entries ≡ d)
IsStoreOf d None = (entries : List Solution) → All IsStorable entries → All Fits entries → store_data entries ≡ d → ⊥

-- WHAT BYTES ARE READ AS
-- entries: the bytes are a text with its trailer, the text is JSON, and that is a store with these entries;
-- `Trailer`: they are no text with its trailer;
-- `Json`: they are, and the text is no JSON;
-- `Format`: it is, and that is no store
abbrev pub IsRead : List ℕ → Result (List Solution) Unread → Type 0
IsRead bytes (Ok entries) = (text : List ℕ) × (d : Data) × IsTextOf bytes (Some text) × IsJsonOf text (Some d) × IsStoreOf d (Some entries)
IsRead bytes (Err Trailer) = IsTextOf bytes None
IsRead bytes (Err Json) = (text : List ℕ) × IsTextOf bytes (Some text) × IsJsonOf text None
IsRead bytes (Err Format) = (text : List ℕ) × (d : Data) × IsTextOf bytes (Some text) × IsJsonOf text (Some d) × IsStoreOf d None

-- what was read, without the places where keys and answers lie
abbrev pub all_read : Result (List Kept) Unread → Result (List Solution) Unread
all_read (Ok entries) = Ok (solutions_of entries)
all_read (Err why) = Err why
