-- Outstanding claims, where another program is present.
use Rattle.std.specs.Prelude.{◌≡◌, ℕ, nat_lt, List, slice_set, if◌then◌else◌}
use Rattle.std.specs.declared.option.Option.{Option}
use Rattle.std.specs.declared.option.Option.TheVariants.{None, Some}
use Rattle.shape_data.specs.declared.answer.Key.{Key}
use Rattle.shape_data.specs.declared.program.Program.{Program}
use Rattle.claim_laws.specs.declared.published.Published.{Published}
use Rattle.claim_laws.specs.declared.published.Published.TheVariants.{Kept, Stale}
use Rattle.claim_laws.specs.declared.published.Seen.TheVariants.{Later}
use Rattle.component_keys.specs.Keys.{names_of, program_components}
use Rattle.claim_core.specs.declared.event.Event.{Event as Told}
use Rattle.summary_book.specs.declared.rows.OutRow.{OutRow}
use Rattle.summary_book.specs.declared.rows.SlotRow.{SlotRow}
use Rattle.summary_book.specs.Places.{key_at}
use Rattle.summary_book.specs.Rows.{is_fit_at, place_named}

-- the row of the same claim for the program
pub record IsMoved (log : List Told) (program : Program) (row later : OutRow) : Type 0 where
  pub number : later.number ≡ row.number
  pub claimed : later.claimed ≡ row.claimed
  pub here : (key : Key) → key_at log row.claimed ≡ Some key → later.here ≡ place_named (program_components program) (names_of key.procs)
  pub fits : (key : Key) → key_at log row.claimed ≡ Some key → later.fits ≡ is_fit_at program later.here key

-- the claims' slots with the one whose answer stands at a place of the log
abbrev pub with_slot_at : List (Option SlotRow) → Option ℕ → SlotRow → List (Option SlotRow)
with_slot_at slots None row = slots
with_slot_at slots (Some here) row = slice_set slots here (Some row)

abbrev pub with_slot : List (Option SlotRow) → OutRow → ℕ → List (Option SlotRow)
with_slot slots row place =
    with_slot_at slots row.here (record { claim = row.number; claimed = row.claimed; published = place; fits = row.fits })

-- what becomes of an answer to the claim of a number, by the row of its component's slot
abbrev pub outcome_by_row : Option SlotRow → ℕ → Published
outcome_by_row None number = Kept
outcome_by_row (Some row) number = if nat_lt number row.claim then Stale (Later row.claim) else Kept
