-- What the search for the first component that may be claimed finds.
use Rattle.std.specs.Prelude.{ℕ, Bool, min}
use Rattle.std.specs.declared.option.Option.{Option}
use Rattle.std.specs.declared.option.Option.TheVariants.{None, Some}
use Rattle.shape_data.specs.declared.answer.Key.{Key}
use Rattle.claim_laws.specs.World.{World}
use Rattle.summary_book.specs.declared.turns.Found.{Found}
use Rattle.summary_book.specs.declared.turns.Found.TheVariants.{Free, Waits, All}
use Rattle.summary_book.specs.Next.{IsFirstFree, IsWaiting, IsSettled}

abbrev pub lesser : Option ℕ → ℕ → ℕ
lesser None number = number
lesser (Some other) number = min other number

abbrev pub IsFound : World → (ℕ → Bool) → Found → Type 0
IsFound world aim (Free place) = (key : Key) × IsFirstFree world aim place key
IsFound world aim (Waits claim) = IsWaiting world aim claim
IsFound world aim All = IsSettled world aim

abbrev pub IsAllFound : Found → Type 0
IsAllFound All = Unit {0}
IsAllFound _ = ⊥
