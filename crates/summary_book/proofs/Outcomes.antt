-- What becomes of an answer, by the rows of the book.
use Rattle.std.proofs.Common.{◌≡◌, ℕ, Bool, true, false, cond, List, slice_get, slice_index_or, Some, None, Option, refl, sym, ap, ◌∙◌}
use Rattle.std.proofs.Common.{option_map}
use Rattle.component_keys.specs.Keys.{Component, names_of, program_components}
use Rattle.component_keys.specs.Tests.{flows_test}
use Rattle.component_keys.proofs.Basics.{mapped_some}
use Rattle.composed_keys.specs.declared.rows.Component.{Component as ComponentRow}
use Rattle.claim_core.specs.declared.event.Event.{Event as Told}
use Rattle.claim_core.specs.Told.{events_of}
use Rattle.claim_laws.specs.Logs.{replay, settled_at}
use Rattle.claim_laws.specs.World.{Out, Slot, Standing, World, is_due, outcome, outcome_at, outcome_of_slot, outcome_settled, slot_of}
use Rattle.claim_laws.specs.World.{standing_at}
use Rattle.claim_laws.specs.declared.published.Published.{Published}
use Rattle.claim_laws.specs.declared.published.Published.TheVariants.{Kept, Stale}
use Rattle.claim_laws.specs.declared.published.Seen.TheVariants.{Changed, Gone, Settled}
use Rattle.summary_book.specs.declared.rows.OutRow.{OutRow}
use Rattle.summary_book.specs.declared.rows.Parts.{Parts}
use Rattle.summary_book.specs.declared.rows.SlotRow.{SlotRow}
use Rattle.summary_book.specs.Moved.{outcome_by_row}
use Rattle.summary_book.specs.Rows.{IsOutRow, IsSight, IsSlot, place_named}
use Rattle.summary_book.specs.Settled.{due_in}
use Rattle.summary_book.proofs.Due.{part, slot_is, stands}
use Rattle.summary_book.proofs.Standings.{named_at, named_none, settled_of}

-- a claim of a component that is not present
pub outcome_gone : (log : List Told) (parts : Parts) (slots : List (Option SlotRow)) → IsSight log parts slots →
    (row : OutRow) (claim : Out) → IsOutRow log parts.program.value row claim → row.here ≡ None →
    outcome (replay (events_of log)) claim ≡ Stale (Gone (replay (events_of log)).revision)
outcome_gone log parts slots sight row claim is here =
    ap (outcome_at (replay (events_of log)).revision (replay (events_of log)).slots claim)
    (named_none (replay (events_of log)) (names_of claim.key.procs)
    (ap (λ p. place_named (program_components p) (names_of claim.key.procs)) (sym sight.program_is) ∙ sym is.here ∙ here))

module _ (log : List Told) (parts : Parts) (slots : List (Option SlotRow)) (sight : IsSight log parts slots) (place : ℕ)
    (row : ComponentRow) (at_row : slice_get parts.components.items place ≡ Some row)
    (orow : OutRow) (claim : Out) (is : IsOutRow log parts.program.value orow claim) (here : orow.here ≡ Some place) where
  abbrev world : World
  world = replay (events_of log)

  abbrev own : Standing
  own = (stands log parts slots sight place row at_row).standing

  abbrev its_part : Component
  its_part = part log parts slots sight place row at_row

  abbrev otherwise : Published
  otherwise =
      cond (is_due own.due claim.key) Kept
      (cond (flows_test.0 claim.key.procs its_part.flows) (outcome_of_slot (slot_of world.slots (names_of its_part.flows)) claim.number)
      (Stale (Changed world.revision)))

  outcome_is : outcome world claim ≡ outcome_settled own.settled otherwise
  outcome_is =
      ap (outcome_at world.revision world.slots claim)
      (named_at world (names_of claim.key.procs) place
      (ap (λ p. place_named (program_components p) (names_of claim.key.procs)) (sym sight.program_is) ∙ sym is.here ∙ here)
      ∙ (stands log parts slots sight place row at_row).at) ∙
      ap
      (λ (p : Component). outcome_settled own.settled
      (cond (is_due own.due claim.key) Kept
      (cond (flows_test.0 claim.key.procs p.flows) (outcome_of_slot (slot_of world.slots (names_of p.flows)) claim.number)
      (Stale (Changed world.revision)))))
      (stands log parts slots sight place row at_row).part_is

  own_settled : settled_at world place ≡ own.settled
  own_settled = settled_of world place own (stands log parts slots sight place row at_row).at

  pub outcome_where_settled : (number : ℕ) → option_map (λ (slot : Slot). slot.claim) (settled_at world place) ≡ Some number →
      outcome world claim ≡ Stale (Settled number)
  outcome_where_settled number e =
      let slot = mapped_some (λ (slot : Slot). slot.claim) (settled_at world place) number e in
      outcome_is ∙ ap (λ o. outcome_settled o otherwise) (sym own_settled ∙ slot.1) ∙ ap (λ n. Stale (Settled n)) (sym slot.2)

  unsettled_is : option_map (λ (slot : Slot). slot.claim) (settled_at world place) ≡ None → own.settled ≡ None
  unsettled_is e = sym own_settled ∙ by_slot (settled_at world place) e
    where
      by_slot : (o : Option Slot) → option_map (λ (slot : Slot). slot.claim) o ≡ None → o ≡ None
      by_slot None f = refl
      by_slot (Some slot) f = cc

  pub outcome_where_due : option_map (λ (slot : Slot). slot.claim) (settled_at world place) ≡ None →
      is_due (due_in (standing_at world place)) claim.key ≡ true → outcome world claim ≡ Kept
  outcome_where_due none due =
      outcome_is ∙ ap (λ o. outcome_settled o otherwise) (unsettled_is none) ∙
      ap (λ b. cond b Kept
      (cond (flows_test.0 claim.key.procs its_part.flows) (outcome_of_slot (slot_of world.slots (names_of its_part.flows)) claim.number)
      (Stale (Changed world.revision))))
      (sym (ap (λ o. is_due (due_in o) claim.key) (stands log parts slots sight place row at_row).at) ∙ due)

  by_slot_row : (o : Option SlotRow) → IsSlot log world.slots world.program its_part o →
      outcome_of_slot (slot_of world.slots (names_of its_part.flows)) claim.number ≡ outcome_by_row o claim.number
  by_slot_row None none = ap (λ s. outcome_of_slot s claim.number) none
  by_slot_row (Some srow) slot = ap (λ s. outcome_of_slot s claim.number) slot.slot

  pub outcome_otherwise : (b : Bool) → option_map (λ (slot : Slot). slot.claim) (settled_at world place) ≡ None →
      is_due (due_in (standing_at world place)) claim.key ≡ false → flows_test.0 claim.key.procs its_part.flows ≡ b →
      outcome world claim ≡ cond b (outcome_by_row (slice_index_or slots place None) orow.number) (Stale (Changed world.revision))
  outcome_otherwise b none undue flows =
      outcome_is ∙ ap (λ o. outcome_settled o otherwise) (unsettled_is none) ∙
      ap (λ c. cond c Kept
      (cond (flows_test.0 claim.key.procs its_part.flows) (outcome_of_slot (slot_of world.slots (names_of its_part.flows)) claim.number)
      (Stale (Changed world.revision))))
      (sym (ap (λ o. is_due (due_in o) claim.key) (stands log parts slots sight place row at_row).at) ∙ undue) ∙
      ap (λ c. cond c (outcome_of_slot (slot_of world.slots (names_of its_part.flows)) claim.number) (Stale (Changed world.revision))) flows
      ∙
      ap (λ p. cond b p (Stale (Changed world.revision)))
      (by_slot_row (slice_index_or slots place None) (slot_is log parts slots sight place row at_row)
      ∙ ap (outcome_by_row (slice_index_or slots place None)) (sym is.number))
