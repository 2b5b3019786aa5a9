-- When marks tell enough of the components that a component calls, and what a component's turn is.
use Rattle.std.specs.Prelude.{◌≡◌, ℕ, ◌<◌, Bool, true, false, List, map, slice_get, is_some}
use Rattle.std.specs.declared.option.Option.{Option}
use Rattle.std.specs.declared.option.Option.TheVariants.{None, Some}
use Rattle.shape_data.specs.declared.answer.Callee.{Callee}
use Rattle.shape_data.specs.declared.answer.Key.{Key}
use Rattle.shape_data.specs.declared.program.Program.{Program}
use Rattle.call_components.specs.Reaching.{marked}
use Rattle.component_keys.specs.Keys.{Component, Outer, program_components}
use Rattle.composed_keys.specs.declared.rows.Outer.{Outer as OuterRow}
use Rattle.claim_core.specs.declared.event.Event.{Event as Told}
use Rattle.claim_laws.specs.World.{World, Standing, standing_at}
use Rattle.claim_laws.specs.Logs.{settled_at}
use Rattle.summary_book.specs.declared.rows.SlotRow.{SlotRow}
use Rattle.summary_book.specs.declared.turns.Turn.{Turn}
use Rattle.summary_book.specs.declared.turns.Turn.TheVariants.{Settled, Blocked, Out, Free}
use Rattle.summary_book.specs.Next.{IsFree, IsOutBy}
use Rattle.summary_book.specs.Rows.{AreMarks, known_row}

-- what is marked before is marked later
abbrev pub StayMarked : List Bool → List Bool → Type 0
StayMarked marks later = (place : ℕ) → marked marks place ≡ true → marked later place ≡ true

-- a component is marked later that was not before
pub record IsMarkedAnew (marks later : List Bool) (component : ℕ) : Type 0 where
  pub was : marked marks component ≡ false
  pub is : marked later component ≡ true

-- of the components that it calls, those that are settled are marked
abbrev pub IsExactAt : World → List Bool → ℕ → Type 0
IsExactAt world marks place =
    (part : Component) (k : ℕ) (outer : Outer) → slice_get (program_components world.program) place ≡ Some part →
    slice_get part.outer k ≡ Some outer →
    is_some (settled_at world outer.component) ≡ true → marked marks outer.component ≡ true

-- the marks of the components before a place tell exactly which are settled
pub record AreExact (world : World) (marks : List Bool) (count : ℕ) : Type 0 where
  pub marks_are : AreMarks world marks
  pub exact : (place : ℕ) → place < count → marked marks place ≡ is_some (settled_at world place)

-- the key has these procedures as callees, with what is known of them
abbrev pub HasKnown : Program → List Told → List (Option SlotRow) → List OuterRow → Option Key → Type 0
HasKnown program log slots outer None = ⊥
HasKnown program log slots outer (Some key) = map (known_row program log slots) outer ≡ map (λ (callee : Callee). Some callee) key.callees

-- the key that a component is due, where there is one
abbrev pub due_in : Option Standing → Option Key
due_in None = None
due_in (Some standing) = standing.due

-- it is unsettled and due no key
pub record IsBlocked (world : World) (place : ℕ) : Type 0 where
  pub standing : Standing
  pub at : standing_at world place ≡ Some standing
  pub settled : standing.settled ≡ None
  pub due : standing.due ≡ None

abbrev pub IsTurn : World → ℕ → Turn → Type 0
IsTurn world place Settled = is_some (settled_at world place) ≡ true
IsTurn world place Blocked = IsBlocked world place
IsTurn world place (Out number) = IsOutBy world place number
IsTurn world place Free = (key : Key) × IsFree world place key
