-- How long the rows of a book are.
use Rattle.std.proofs.Common.{◌≡◌, ℕ, ◌<◌, Bool, List, length, Option, sym, ap, ◌∙◌, subst, arith}
use Rattle.component_keys.specs.Keys.{program_components}
use Rattle.claim_core.specs.declared.event.Event.{Event as Told}
use Rattle.claim_core.specs.Told.{events_of}
use Rattle.claim_laws.specs.Logs.{replay}
use Rattle.claim_laws.specs.World.{World, standings}
use Rattle.summary_book.specs.declared.rows.Parts.{Parts}
use Rattle.summary_book.specs.declared.rows.SlotRow.{SlotRow}
use Rattle.summary_book.specs.Rows.{AreMarks, IsSight}
use Rattle.summary_book.proofs.Components.{components_length}
use Rattle.summary_book.proofs.Standings.{standings_length}
use Rattle.summary_book.proofs.Search.{AreSeen}

module _ (log : List Told) (parts : Parts) (slots : List (Option SlotRow)) (sight : IsSight log parts slots) where
  abbrev world : World
  world = replay (events_of log)

  pub parts_count : length parts.components.items ≡ length (program_components world.program)
  parts_count = components_length parts sight.parts_are ∙ ap (λ p. length (program_components p)) sight.program_is

  pub standings_count : length (standings world) ≡ length parts.components.items
  standings_count = standings_length world ∙ sym parts_count

  pub within_marks : (marks : List Bool) (place : ℕ) → AreMarks world marks → place < length parts.components.items → place < length marks
  within_marks marks place are lt = let one = are.lengths in let two = parts_count in omega (arith, one, two, lt)

  pub seen_for : (aim : ℕ → Bool) (marks later : List Bool) (least its : Option ℕ) (count : ℕ) → AreSeen world aim marks least count →
      later ≡ marks → its ≡ least → AreSeen world aim later its count
  seen_for aim marks later least its count are same_marks same_least =
      subst (λ m. AreSeen world aim m its count) (sym same_marks) (subst (λ o. AreSeen world aim marks o count) (sym same_least) are)

  pub seen_end : (aim : ℕ → Bool) (marks : List Bool) (least its : Option ℕ) (count : ℕ) → AreSeen world aim marks least count →
      count ≡ length parts.components.items → least ≡ its →
      AreSeen world aim marks its (length (standings world))
  seen_end aim marks least its count are all same =
      subst (λ n. AreSeen world aim marks its n) (all ∙ sym standings_count) (subst (λ o. AreSeen world aim marks o count) same are)
