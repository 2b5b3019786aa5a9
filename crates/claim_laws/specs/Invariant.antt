-- What holds of every world that a log leads to.
use Rattle.std.specs.Prelude.{◌≡◌, ◌≢◌, ℕ, ◌<◌, ◌≤◌, List, All}
use Rattle.std.specs.List.{AllPairs}
use Rattle.std.specs.declared.option.Option.TheVariants.{Some}
use Rattle.shape_data.specs.declared.answer.Callee.{Callee}
use Rattle.shape_data.specs.declared.answer.Key.{Key}
use Rattle.shape_data.specs.declared.program.Flow.{Flow}
use Rattle.shape_data.specs.declared.program.StructDef.{StructDef}
use Rattle.component_keys.specs.Keys.{names_of, key_over}
use Rattle.claim_laws.specs.World.{World, Slot, Out, Standing, standing_at}
use Rattle.claim_laws.specs.Logs.{replay}
use Rattle.claim_laws.specs.World.{Event}

-- the component is due the key
pub record IsDueAt (world : World) (component : ℕ) (key : Key) : Type 0 where
  pub standing : Standing
  pub at : standing_at world component ≡ Some standing
  pub due : standing.due ≡ Some key

-- slots stand in order of their claims
abbrev pub IsNoLater : Slot → Slot → Type 0
IsNoLater one other = one.claim ≤ other.claim

-- a key over some procedures, structures and callees
abbrev pub IsComposed : Key → Type 0
IsComposed key = (structs : List StructDef) × (flows : List Flow) × (callees : List Callee) × (key ≡ key_over structs flows callees)

-- a slot is named after its key, a composed one, and its claim was made
pub record IsOwnSlot (made : ℕ) (slot : Slot) : Type 0 where
  pub members : slot.members ≡ names_of slot.key.procs
  pub composed : IsComposed slot.key
  pub number : slot.claim ≤ made

-- an outstanding claim was made, in this revision or an earlier one, and holds a composed key: that which its component is due, where it
-- was made in this revision
pub record IsGoodOut (world : World) (claim : Out) : Type 0 where
  pub number : claim.number ≤ world.made
  pub revision : claim.revision ≤ world.revision
  pub composed : IsComposed claim.key
  pub due : claim.revision ≡ world.revision → IsDueAt world claim.component claim.key

-- no two outstanding claims hold one key
abbrev pub HaveOtherKeys : Out → Out → Type 0
HaveOtherKeys one other = one.key ≢ other.key

-- outstanding claims stand in order of their numbers
abbrev pub IsEarlier : Out → Out → Type 0
IsEarlier one other = one.number < other.number

-- what each event keeps
pub record IsWorld (world : World) : Type 0 where
  pub slots : All (IsOwnSlot world.made) world.slots
  pub slots_rising : AllPairs IsNoLater world.slots
  pub out : All (IsGoodOut world) world.out
  pub out_rising : AllPairs IsEarlier world.out
  pub different : AllPairs HaveOtherKeys world.out

abbrev pub WorldsAreKept : Type 0
WorldsAreKept = (log : List Event) → IsWorld (replay log)
