-- There is one entry for each component that an aim reaches, since each of them is settled.
use Rattle.std.proofs.Common.{◌≡◌, ℕ, ◌<◌, length, Some, None, Option, sym, ap, ◌∙◌, filter, refl, true, arith}
use Rattle.std.specs.List.{count_by, range_with_len}
use Rattle.std.proofs.lemmas.List.{length-map}
use Rattle.std.proofs.lemmas.List.Sums.{length-filter}
use Rattle.component_keys.specs.Keys.{program_components}
use Rattle.claim_laws.specs.World.{World, Slot, standings}
use Rattle.claim_laws.specs.Logs.{replay, settled_at}
use Rattle.summary_book.specs.declared.aims.Aim.{Aim}
use Rattle.summary_book.specs.Aims.{aimed}
use Rattle.summary_book.specs.Next.{IsSettled, slots_by}
use Rattle.summary_book.specs.Views.{slot_solution}
use Rattle.claim_core.specs.Views.{solution_of}
use Rattle.summary_book.proofs.Standings.{settled_of, standings_length, stands_at}
use Rattle.bottom_up.proofs.ListPlaces.{mapped_length, within_at}
use Rattle.settled_laws.specs.Laws.{CollectedAreMany}
use Rattle.settled_laws.proofs.Aimed.{passing_at}

module _ (world : World) (aim : Aim) (settled : IsSettled world (aimed world.program aim)) where
  -- a component that is reached has a slot
  has_slot : (place : ℕ) → aimed world.program aim place ≡ true → place < length (program_components world.program)
      → (slot : Slot) × (settled_at world place ≡ Some slot)
  has_slot place reaches lt = by_slot (settled_at world place) refl
    where
      by_slot : (o : Option Slot) → settled_at world place ≡ o → (slot : Slot) × (settled_at world place ≡ Some slot)
      by_slot None e =
          let there = within_at (program_components world.program) place lt in
          let own = stands_at world place there.0 there.1 in
          absurd (settled place reaches
          (record { standing = own.standing; at = own.at; settled = sym (settled_of world place own.standing own.at) ∙ e }))
      by_slot (Some slot) e = (slot, e)

  slots_many : length (slots_by world (aimed world.program aim))
      ≡ count_by (aimed world.program aim) (range_with_len 0 (length (program_components world.program)))
  slots_many =
      let same : length (standings world) ≡ length (program_components world.program) = standings_length world in
      mapped_length (settled_at world) (filter (aimed world.program aim) (range_with_len 0 (length (standings world))))
      (λ i place at.
      let own = passing_at (aimed world.program aim) (length (standings world)) i place at in
      has_slot place own.0 (let lt = own.1 in omega (arith, lt, same))) ∙
      length-filter (aimed world.program aim) (range_with_len 0 (length (standings world))) ∙
      ap (λ n. count_by (aimed world.program aim) (range_with_len 0 n)) same

pub collected_are_many : CollectedAreMany
collected_are_many log aim settled kept same =
    sym (length-map kept solution_of) ∙ ap length same ∙ length-map (slots_by (replay log) (aimed (replay log).program aim)) slot_solution
    ∙ slots_many (replay log) aim settled
