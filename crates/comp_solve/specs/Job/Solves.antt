-- Which answers are right for a key.
use Rattle.std.specs.Prelude.{◌≡◌, ◌⊎◌, true}
use Rattle.shape_data.specs.declared.answer.Answer.{Answer}
use Rattle.shape_data.specs.declared.answer.Key.{Key}
use Rattle.shape_data.specs.WellFormed.{IsStorableAnswer}
use Rattle.claim_core.specs.Views.{Solution}
use Rattle.solve_laws.specs.Certificates.Inductive.{Inductive}
pub use Rattle.solve_laws.specs.Solving.{solve}

-- the answer is marked as read from a store, and is inductive for the key
pub record IsStored (key : Key) (answer : Answer) : Type 0 where
  pub stored : answer.stored ≡ true
  pub inductive : Inductive key answer

-- the answer is what solving the key gives, or is marked as read from a store and is inductive for the key
abbrev pub Solves : Key → Answer → Type 0
Solves key answer = (answer ≡ solve key) ⊎ IsStored key answer

-- an entry whose answer is marked as read from a store, is inductive for its key, and is within the limits of a store
pub record IsStoredEntry (one : Solution) : Type 0 where
  pub right : IsStored one.key one.answer
  pub storable : IsStorableAnswer one.key one.answer
