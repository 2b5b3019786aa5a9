-- What a store's bytes are loaded as: the entries whose answers are inductive for their keys, whatever the bytes are.
use Rattle.std.specs.Prelude.{ℕ, suc, List, [], ◌∷◌, map, All}
use Rattle.std.specs.declared.result.Result.{Result}
use Rattle.std.specs.declared.result.Result.TheVariants.{Ok, Err}
use Rattle.shape_data.specs.declared.answer.Kept.{Kept}
use Rattle.claim_core.specs.Views.{Solution, solution_of}
use Rattle.solve_laws.specs.Certificates.Inductive.{Inductive}
use Rattle.store_json.specs.Entries.{IsReadEntry}
use Rattle.store_json.specs.Reading.{IsRead}
use Rattle.store_json.specs.declared.reading.Unread.{Unread}
use Rattle.summary_store.specs.declared.loading.Loaded.{Loaded}
use Rattle.summary_store.specs.declared.loading.Loaded.TheVariants as loaded

-- the answer of an entry is inductive for its key
abbrev pub IsInductive : Solution → Type 0
IsInductive entry = Inductive entry.key entry.answer

-- entries, those of them that are inductive, in order, and how many others there are
pub data AreChecked : List Solution → List Solution → ℕ → Type 0 where
  no_entry : AreChecked [] [] 0
  with_inductive : (entry : Solution) (all left : List Solution) (others : ℕ) → IsInductive entry → AreChecked all left others →
      AreChecked (entry ∷ all) (entry ∷ left) others
  with_other : (entry : Solution) (all left : List Solution) (others : ℕ) → (IsInductive entry → ⊥) → AreChecked all left others →
      AreChecked (entry ∷ all) left (suc others)

-- what bytes are loaded as: the entries that are inductive, and how many were dropped
pub record Contents : Type 0 where
  pub entries : List Solution
  pub dropped : ℕ

-- these are what is left of all entries
abbrev pub AreContents : List Solution → Contents → Type 0
AreContents all contents = AreChecked all contents.entries contents.dropped

-- what is left of all entries, which were read
abbrev pub IsLeftOf : List Solution → Result Contents Unread → Type 0
IsLeftOf all (Ok contents) = AreContents all contents
IsLeftOf all (Err why) = ⊥

-- WHAT BYTES ARE LOADED AS
-- contents: the bytes are read as entries, and these are what is left of them; else why they are not read
abbrev pub IsLoaded : List ℕ → Result Contents Unread → Type 0
IsLoaded bytes (Ok contents) = (all : List Solution) × IsRead bytes (Ok all) × AreContents all contents
IsLoaded bytes (Err why) = IsRead bytes (Err why)

-- what is known of an entry that was loaded: it is well formed, fits its types, is marked `stored`, and is inductive
pub record IsLoadedEntry (entry : Solution) : Type 0 where
  pub read : IsReadEntry entry
  pub inductive : IsInductive entry

-- what the code answers, without the places where keys and answers lie
abbrev pub contents_of : Loaded → Result Contents Unread
contents_of (loaded.Entries entries dropped) = Ok (record { entries = map solution_of entries; dropped = dropped })
contents_of (loaded.Unread why) = Err why

-- the entries of what was loaded: none where the bytes were not read
abbrev pub entries_in : Result Contents Unread → List Solution
entries_in (Ok contents) = contents.entries
entries_in (Err why) = []

-- each entry that was loaded is one of which that is known
abbrev pub AreLoaded : Loaded → Type 0
AreLoaded (loaded.Entries entries dropped) = All (λ (kept : Kept). IsLoadedEntry (solution_of kept)) entries
AreLoaded (loaded.Unread why) = Unit {0}
