-- What is handed out next.
use Rattle.std.specs.Prelude.{◌≡◌, ℕ, ◌+◌, ◌<◌, ◌≤◌, Bool, true, false, List, [], ◌∷◌, length}
use Rattle.std.specs.List.{list_any, count_by, filter, filter_map, range_with_len}
use Rattle.std.specs.declared.option.Option.TheVariants.{None, Some}
use Rattle.shape_data.specs.declared.answer.Key.{Key}
use Rattle.component_keys.specs.Tests.{key_test}
use Rattle.claim_core.specs.Views.{Claimed}
use Rattle.claim_laws.specs.World.{World, Event, Slot, Standing, standing_at, standings}
use Rattle.claim_laws.specs.Logs.{settled_at}
use Rattle.claim_laws.specs.Waits.{IsUnsettled, IsOut, IsAboveOut}
use Rattle.summary_book.specs.declared.answers.Next.{Next}
use Rattle.summary_book.specs.declared.answers.Next.TheVariants.{Yours, Waits, All}

-- the component may be claimed under the key: it is unsettled, it is due the key, and no outstanding claim holds that
pub record IsFree (world : World) (component : ℕ) (key : Key) : Type 0 where
  pub standing : Standing
  pub at : standing_at world component ≡ Some standing
  pub settled : standing.settled ≡ None
  pub due : standing.due ≡ Some key
  pub held : list_any (λ claim. key_test.0 claim.key key) world.out ≡ false

-- of the components that the aim reaches it is the first that may be claimed
pub record IsFirstFree (world : World) (aim : ℕ → Bool) (component : ℕ) (key : Key) : Type 0 where
  pub free : IsFree world component key
  pub reached : aim component ≡ true
  pub first : (other : ℕ) (its : Key) → other < component → aim other ≡ true → IsFree world other its → ⊥

-- the component is out by the claim of the number
pub record IsOutBy (world : World) (component number : ℕ) : Type 0 where
  pub out : IsOut world component
  pub number_is : out.claim.number ≡ number

-- some component that the aim reaches is unsettled, each such is out or stands above one that is, and the claim is the least by which one
-- is out
pub record IsWaiting (world : World) (aim : ℕ → Bool) (number : ℕ) : Type 0 where
  pub component : ℕ
  pub reached : aim component ≡ true
  pub out : IsOutBy world component number
  pub least : (other its : ℕ) → aim other ≡ true → IsOutBy world other its → number ≤ its
  pub above : (other : ℕ) → aim other ≡ true → IsUnsettled world other → IsAboveOut world other

-- no component that the aim reaches is unsettled
abbrev pub IsSettled : World → (ℕ → Bool) → Type 0
IsSettled world aim = (component : ℕ) → aim component ≡ true → IsUnsettled world component → ⊥

abbrev pub IsNext : World → (ℕ → Bool) → Next → Type 0
IsNext world aim (Yours claim) =
    (claim.number ≡ world.made + 1) × (claim.revision ≡ world.revision) × IsFirstFree world aim claim.component claim.key
IsNext world aim (Waits claim) = IsWaiting world aim claim
IsNext world aim All = IsSettled world aim

-- where a claim was handed out, this holds of it
abbrev pub IfYours : Next → (Claimed → Type 0) → Type 0
IfYours (Yours claim) P = P claim
IfYours _ P = Unit {0}

-- nothing is left to do
abbrev pub IsAllAnswer : Next → Type 0
IsAllAnswer All = Unit {0}
IsAllAnswer _ = ⊥

-- how many components an aim reaches
abbrev pub count_aimed : World → (ℕ → Bool) → ℕ
count_aimed world aim = count_by aim (range_with_len 0 (length (standings world)))

-- the event of what was handed out
abbrev pub events_by : ℕ → Next → List Event
events_by worker (Yours claim) = Event.Claim claim.number worker claim.component claim.key ∷ []
events_by worker _ = []

-- the slots of the components that an aim reaches, callees first
abbrev pub slots_by : World → (ℕ → Bool) → List Slot
slots_by world aim = filter_map (settled_at world) (filter aim (range_with_len 0 (length (standings world))))
