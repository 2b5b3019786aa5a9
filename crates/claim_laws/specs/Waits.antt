-- Why nothing can be claimed: each unsettled component is out, or stands above one that is out.
use Rattle.std.specs.Prelude.{◌≡◌, ℕ, Bool, true, slice_get}
use Rattle.std.specs.declared.option.Option.TheVariants.{None, Some}
use Rattle.shape_data.specs.declared.answer.Key.{Key}
use Rattle.component_keys.specs.Keys.{Outer}
use Rattle.claim_laws.specs.World.{World, Out, Standing, standing_at}

-- the component is present and unsettled
pub record IsUnsettled (world : World) (component : ℕ) : Type 0 where
  pub standing : Standing
  pub at : standing_at world component ≡ Some standing
  pub settled : standing.settled ≡ None

-- it is unsettled, its callees are settled, and an outstanding claim holds its key
pub record IsOut (world : World) (component : ℕ) : Type 0 where
  pub standing : Standing
  pub at : standing_at world component ≡ Some standing
  pub settled : standing.settled ≡ None
  pub place : ℕ
  pub claim : Out
  pub outstanding : slice_get world.out place ≡ Some claim
  pub due : standing.due ≡ Some claim.key

-- it is out, or it calls an unsettled component that is, directly or not
pub data IsAboveOut (world : World) : ℕ → Type 0 where
  Itself : {component : ℕ} → IsOut world component → IsAboveOut world component
  Above : {component : ℕ} (standing : Standing) (place : ℕ) (outer : Outer) → standing_at world component ≡ Some standing →
      standing.settled ≡ None → slice_get standing.part.outer place ≡ Some outer →
      IsAboveOut world outer.component → IsAboveOut world component

-- the aim reaches whom its components call
abbrev pub IsAim : World → (ℕ → Bool) → Type 0
IsAim world aim = (component : ℕ) (standing : Standing) (place : ℕ) (outer : Outer) → aim component ≡ true →
    standing_at world component ≡ Some standing → slice_get standing.part.outer place ≡ Some outer → aim outer.component ≡ true

-- where no component of the aim can be claimed, each unsettled one is out or stands above one that is
abbrev pub WaitsOnOut : Type 0
WaitsOnOut =
    (world : World) (aim : ℕ → Bool) → IsAim world aim →
    ((component : ℕ) (standing : Standing) (key : Key) → aim component ≡ true → standing_at world component ≡ Some standing →
    standing.settled ≡ None → standing.due ≡ Some key → IsOut world component) →
    (component : ℕ) → aim component ≡ true → IsUnsettled world component → IsAboveOut world component
