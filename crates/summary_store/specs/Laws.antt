-- Laws of stores that are loaded.
use Rattle.std.specs.Prelude.{◌≡◌, ℕ, List, map, All}
use Rattle.std.specs.declared.result.Result.{Result}
use Rattle.std.specs.declared.result.Result.TheVariants.{Ok}
use Rattle.shape_data.specs.declared.program.Program.{Program}
use Rattle.claim_core.specs.Views.{Solution}
use Rattle.sound_laws.specs.Answers.{AreValidIn, StandsIn}
use Rattle.store_json.specs.Entries.{as_stored, Fits, IsStorable}
use Rattle.store_json.specs.Texts.{store_text}
use Rattle.store_json.specs.declared.reading.Unread.{Unread}
use Rattle.summary_store.specs.Loading.{entries_in, Contents, IsInductive, IsLoaded, IsLoadedEntry}

-- bytes are loaded in one way alone
abbrev pub OneLoading : Type 0
OneLoading = (bytes : List ℕ) (one other : Result Contents Unread) → IsLoaded bytes one → IsLoaded bytes other → one ≡ other

-- and in some way
abbrev pub SomeLoading : Type 0
SomeLoading = (bytes : List ℕ) → (loaded : Result Contents Unread) × IsLoaded bytes loaded

-- whatever the bytes are, each entry that is loaded is well formed, marked as stored, and inductive
abbrev pub LoadedAreInductive : Type 0
LoadedAreInductive = (bytes : List ℕ) (loaded : Result Contents Unread) → IsLoaded bytes loaded → All IsLoadedEntry (entries_in loaded)

-- entries that are inductive are loaded as they were written, each answer marked as stored, and none is dropped
abbrev pub StoresAreLoadedBack : Type 0
StoresAreLoadedBack =
    (entries : List Solution) → All IsStorable entries → All Fits entries → All IsInductive entries →
    IsLoaded (store_text entries) (Ok (record { entries = map as_stored entries; dropped = 0 }))

-- so the specs of each are valid, in every program in which its key stands: this is asked of no store, whoever wrote it
abbrev pub IsValidEntry : Solution → Type 0
IsValidEntry entry = (program : Program) → StandsIn program entry.key → AreValidIn program entry.key entry.answer

abbrev pub LoadedAreValid : Type 0
LoadedAreValid = (bytes : List ℕ) (loaded : Result Contents Unread) → IsLoaded bytes loaded → All IsValidEntry (entries_in loaded)
