-- The slots that stay where another program is present, row by row.
use Rattle.std.proofs.Common.{◌≡◌, ℕ, ◌+◌, ◌<◌, Bool, true, List, length, slice_get, slice_index_or, slice_set, Some, None, Option, refl}
use Rattle.std.proofs.Common.{sym, ap, ◌∙◌, subst, ⊎_elim, ◌⊎◌, arith}
use Rattle.std.specs.List.{filter}
use Rattle.std.proofs.lemmas.Bool.{cases_eq, cases_lt}
use Rattle.std.proofs.lemmas.List.{length-set, get_or-set_same, get_or-set_other}
use Rattle.std.proofs.lemmas.Option.{slice_get_within}
use Rattle.shape_data.specs.declared.answer.Key.{Key}
use Rattle.shape_data.specs.declared.program.Flow.{Flow}
use Rattle.shape_data.specs.declared.program.Program.{Program}
use Rattle.shape_data.specs.declared.program.StructDef.{StructDef}
use Rattle.sym_parts.proofs.ShapesLemmas.StepsStacks.{within-some}
use Rattle.component_keys.specs.Components.{same_names}
use Rattle.component_keys.specs.Keys.{Component, key_over, names_of, program_components}
use Rattle.component_keys.specs.Tests.{key_test}
use Rattle.component_keys.proofs.Apart.{names_same}
use Rattle.component_keys.proofs.Basics.{found, found_kept, not_none, some_same}
use Rattle.claim_core.specs.declared.event.Event.{Event as Told}
use Rattle.claim_core.specs.Told.{events_of}
use Rattle.claim_laws.specs.World.{Slot, World, is_present, slot_of}
use Rattle.claim_laws.specs.Invariant.{IsOwnSlot}
use Rattle.claim_laws.specs.Logs.{replay}
use Rattle.claim_laws.proofs.Invariant.{all_at, replayed_world}
use Rattle.summary_book.specs.declared.rows.Parts.{Parts}
use Rattle.summary_book.specs.declared.rows.SlotRow.{SlotRow}
use Rattle.summary_book.specs.Places.{key_at}
use Rattle.summary_book.specs.Rows.{AreSlots, IsComposed, IsSight, IsSlot, IsSlotAt, is_fit, is_fit_at, place_named}
use Rattle.summary_book.proofs.Standings.{no_place, own_place, place_is}
use Rattle.summary_book.proofs.Present.{IsPresent, part_of, present_at, replayed_present}

-- a key that fits is composed over the structures
composed_where : (structs : List StructDef) (flows : List Flow) (key : Key) → key ≡ key_over structs flows key.callees →
    IsComposed structs key
composed_where structs flows key is = is ∙ ap (λ fs. key_over structs fs key.callees) (sym (ap (λ (k : Key). k.procs) is))

-- the key of a slot that fits is composed over the structures of another program, where they are the same
pub slot_composed : (log : List Told) (old : Parts) (slots : List (Option SlotRow)) → IsSight log old slots → (program : Program) →
    old.program.value.structs ≡ program.structs → (place : ℕ) (row : SlotRow) (key : Key) →
    place < length slots → slice_index_or slots place None ≡ Some row → key_at log row.claimed ≡ Some key → row.fits ≡ true →
    IsComposed program.structs key
slot_composed log old slots sight program same place row key within row_is key_is fits =
    let world = replay (events_of log) in
    let part = within-some (program_components world.program) place (let e = sight.slots_are.lengths in omega (arith, within, e)) in
    let slot : IsSlotAt log world.slots world.program part.0 row =
    subst (IsSlot log world.slots world.program part.0) row_is (sight.slots_are.each place part.0 part.1) in
    let is : slot.key ≡ key_over world.program.structs part.0.flows slot.key.callees =
    (key_test.1 slot.key (key_over world.program.structs part.0.flows slot.key.callees)).0 (sym slot.fits ∙ fits) in
    subst (λ (k : Key). IsComposed program.structs k) (some_same (sym slot.key_is ∙ key_is))
    (subst (λ structs. IsComposed structs slot.key) (ap (λ (p : Program). p.structs) (sym sight.program_is) ∙ same)
    (composed_where world.program.structs part.0.flows slot.key is))

-- no row before a place is a slot of these members
abbrev pub HasNone : List Told → List (Option SlotRow) → ℕ → List (List ℕ) → Type 0
HasNone log rows count names =
    (place : ℕ) (row : SlotRow) (key : Key) → place < count → slice_index_or rows place None ≡ Some row →
    key_at log row.claimed ≡ Some key → names_of key.procs ≡ names → ⊥

-- the component's slot was found, or none is yet
abbrev pub IsFoundOr : List Told → List Slot → Program → List (Option SlotRow) → ℕ → Component → Option SlotRow → Type 0
IsFoundOr log slots program rows count part None = HasNone log rows count (names_of part.flows)
IsFoundOr log slots program rows count part (Some row) = IsSlotAt log slots program part row

pub record AreFound (log : List Told) (slots : List Slot) (program : Program) (rows kept : List (Option SlotRow)) (count : ℕ) : Type 0 where
  pub lengths : length kept ≡ length (program_components program)
  pub each : (place : ℕ) (part : Component) → slice_get (program_components program) place ≡ Some part →
      IsFoundOr log slots program rows count part (slice_index_or kept place None)

found_more : (log : List Told) (slots : List Slot) (program : Program) (rows : List (Option SlotRow)) (count : ℕ) (part : Component)
    (o : Option SlotRow) →
    ((row : SlotRow) (key : Key) → slice_index_or rows count None ≡ Some row → key_at log row.claimed ≡ Some key →
    names_of key.procs ≡ names_of part.flows → ⊥) →
    IsFoundOr log slots program rows count part o → IsFoundOr log slots program rows (count + 1) part o
found_more log slots program rows count part None never none = λ place row key lt is key_is same.
    ⊎_elim (λ less. none place row key less is key_is same)
    (λ le. let here : place
    ≡ count = omega (arith, lt, le) in never row key (sym (ap (λ n. slice_index_or rows n None) here) ∙ is) key_is same)
    (cases_lt place count)
found_more log slots program rows count part (Some row) never is = is

-- a row that has no slot of the program
pub found_none : (log : List Told) (slots : List Slot) (program : Program) (rows kept : List (Option SlotRow)) (count : ℕ) →
    AreFound log slots program rows kept count →
    ((row : SlotRow) (key : Key) → slice_index_or rows count None ≡ Some row → key_at log row.claimed ≡ Some key →
    place_named (program_components program) (names_of key.procs) ≡ None) →
    AreFound log slots program rows kept (count + 1)
found_none log slots program rows kept count are none = record {
  lengths = are.lengths;
  each = λ place part at.
      found_more log slots program rows count part (slice_index_or kept place None)
      (λ row key is key_is same. no_place program (names_of key.procs) (none row key is key_is) place part at (sym same))
      (are.each place part at);
}

-- a row of a slot that stays
module _ (log : List Told) (old program : Program) (rows kept : List (Option SlotRow)) (count : ℕ)
    (old_is : old ≡ (replay (events_of log)).program)
    (old_slots : AreSlots log (replay (events_of log)).slots (replay (events_of log)).program rows)
    (are : AreFound log (replay (events_of log)).slots program rows kept count) (row : SlotRow) (key : Key)
    (within : count < length rows) (row_is : slice_index_or rows count None ≡ Some row) (key_is : key_at log row.claimed ≡ Some key)
    (here : ℕ) (fits : Bool)
    (here_is : place_named (program_components program) (names_of key.procs) ≡ Some here)
    (fits_is : fits ≡ is_fit_at program (Some here) key) where
  abbrev world : World
  world = replay (events_of log)

  abbrev new_row : SlotRow
  new_row = record { claim = row.claim; claimed = row.claimed; published = row.published; fits = fits }

  old_part : (part : Component) × (slice_get (program_components world.program) count ≡ Some part)
  old_part = within-some (program_components world.program) count (let e = old_slots.lengths in omega (arith, within, e))

  old_slot : IsSlotAt log world.slots world.program old_part.0 row
  old_slot = subst (IsSlot log world.slots world.program old_part.0) row_is (old_slots.each count old_part.0 old_part.1)

  same_key : old_slot.key ≡ key
  same_key = some_same (sym old_slot.key_is ∙ key_is)

  -- the key has the members' names
  own_names : names_of old_part.0.flows ≡ names_of key.procs
  own_names =
      let there = found (λ (slot : Slot). same_names slot.members (names_of old_part.0.flows)) world.slots _ old_slot.slot in
      (all_at (IsOwnSlot world.made) world.slots there.1.0 _ (replayed_world (events_of log)).slots there.1.1).members
      ∙ ap (λ (k : Key). names_of k.procs) same_key

  new_slot : (part : Component) → slice_get (program_components program) here ≡ Some part → IsSlotAt log world.slots program part new_row
  new_slot part at =
      let own = place_is program (names_of key.procs) here here_is in
      let names : names_of part.flows ≡ names_of old_part.0.flows =
      ap (λ (p : Component). names_of p.flows) (some_same (sym at ∙ own.1)) ∙ own.2 ∙ sym own_names in
      record {
        key = key;
        answer = old_slot.answer;
        key_is = key_is;
        answer_is = old_slot.answer_is;
        slot = ap (slot_of world.slots) names ∙ old_slot.slot
            ∙ (λ i. Some (record { members = sym names i; claim = row.claim; key = same_key i; answer = old_slot.answer }));
        fits = fits_is ∙ ap (λ o. is_fit program o key) at;
      }

  each_found : (place : ℕ) (part : Component) → slice_get (program_components program) place ≡ Some part →
      (place ≡ here) ⊎ (place ≡ here → ⊥) →
      IsFoundOr log world.slots program rows (count + 1) part (slice_index_or (slice_set kept here (Some new_row)) place None)
  each_found place part at cases =
      ⊎_elim
      (λ same.
      let here_at : slice_get (program_components program) here ≡ Some part = ap (slice_get (program_components program)) (sym same) ∙ at in
      let less : here < length (program_components program) = slice_get_within (program_components program) here part here_at in
      let count_is : length kept ≡ length (program_components program) = are.lengths in
      subst (IsFoundOr log world.slots program rows (count + 1) part)
      (sym (ap (λ n. slice_index_or (slice_set kept here (Some new_row)) n None) same
      ∙ get_or-set_same kept here (Some new_row) None (omega (arith, less, count_is)))) (new_slot part here_at))
      (λ other.
      subst (IsFoundOr log world.slots program rows (count + 1) part) (sym (get_or-set_other kept here place (Some new_row) None other))
      (found_more log world.slots program rows count part (slice_index_or kept place None)
      (λ one its is its_is same.
      let row_same : one ≡ row = some_same (sym is ∙ row_is) in
      let key_same : its ≡ key = some_same (sym its_is ∙ ap (λ (r : SlotRow). key_at log r.claimed) row_same ∙ key_is) in
      other (some_same
      (sym (own_place program place part (names_of key.procs) at (sym same ∙ ap (λ (k : Key). names_of k.procs) key_same)) ∙ here_is)))
      (are.each place part at)))
      cases

  pub found_here : AreFound log world.slots program rows (slice_set kept here (Some new_row)) (count + 1)
  found_here =
      record {
        lengths = length-set kept here (Some new_row) ∙ are.lengths;
        each = λ place part at. each_found place part at (cases_eq place here);
      }

-- when all rows were looked at, the slots are those that stay
module _ (log : List Told) (program : Program) (rows kept : List (Option SlotRow))
    (old_slots : AreSlots log (replay (events_of log)).slots (replay (events_of log)).program rows)
    (are : AreFound log (replay (events_of log)).slots program rows kept (length rows)) where
  abbrev all_slots : List Slot
  all_slots = (replay (events_of log)).slots

  same_slot : (place : ℕ) (part : Component) → slice_get (program_components program) place ≡ Some part →
      slot_of (filter (is_present program) all_slots) (names_of part.flows) ≡ slot_of all_slots (names_of part.flows)
  same_slot place part at =
      found_kept (λ (slot : Slot). same_names slot.members (names_of part.flows)) (is_present program) all_slots
      (λ slot e. present_at program slot place part at (sym ((names_same slot.members (names_of part.flows)).0 e)))

  -- a slot of the members would have been found
  no_slot : (part : Component) (slot : Slot) → HasNone log rows (length rows) (names_of part.flows) →
      slot_of all_slots (names_of part.flows) ≡ Some slot → ⊥
  no_slot part slot none is =
      let there = found (λ (one : Slot). same_names one.members (names_of part.flows)) all_slots slot is in
      let members : slot.members ≡ names_of part.flows = (names_same slot.members (names_of part.flows)).0 there.0 in
      let present =
      all_at (IsPresent (replay (events_of log)).program) all_slots there.1.0 slot (replayed_present (events_of log)) there.1.1 in
      let own =
      all_at (IsOwnSlot (replay (events_of log)).made) all_slots there.1.0 slot (replayed_world (events_of log)).slots there.1.1 in
      let old = part_of (replay (events_of log)).program slot present in
      let within : old.0
      < length rows =
      (let lt = slice_get_within
      (program_components (replay (events_of log)).program) old.0 old.1 old.2 in let e = old_slots.lengths in omega (arith, lt, e)) in
      by_row old.0 old.1 within (ap (slot_of all_slots) (old.3 ∙ members) ∙ is) (sym own.members ∙ members)
      (slice_index_or rows old.0 None) refl (old_slots.each old.0 old.1 old.2)
    where
      by_row : (place : ℕ) (old : Component) → place < length rows → slot_of all_slots (names_of old.flows) ≡ Some slot →
          names_of slot.key.procs ≡ names_of part.flows → (o : Option SlotRow) →
          slice_index_or rows place None ≡ o → IsSlot log all_slots (replay (events_of log)).program old o → ⊥
      by_row place old within is_slot names None at is = not_none (sym is ∙ is_slot)
      by_row place old within is_slot names (Some row) at is =
          none place row is.key within at is.key_is (ap (λ (s : Slot). names_of s.key.procs) (some_same (sym is.slot ∙ is_slot)) ∙ names)

  by_found : (place : ℕ) (part : Component) → slice_get (program_components program) place ≡ Some part → (o : Option SlotRow) →
      IsFoundOr log all_slots program rows (length rows) part o →
      IsSlot log (filter (is_present program) all_slots) program part o
  by_found place part at None none = same_slot place part at ∙ by_slot (slot_of all_slots (names_of part.flows)) refl
    where
      by_slot : (o : Option Slot) → slot_of all_slots (names_of part.flows) ≡ o → o ≡ None
      by_slot None e = refl
      by_slot (Some slot) e = absurd (no_slot part slot none e)
  by_found place part at (Some row) is =
      record {
        key = is.key;
        answer = is.answer;
        key_is = is.key_is;
        answer_is = is.answer_is;
        slot = same_slot place part at ∙ is.slot;
        fits = is.fits;
      }

  pub found_all : AreSlots log (filter (is_present program) all_slots) program kept
  found_all =
      record {
        lengths = are.lengths;
        each = λ place part at. by_found place part at (slice_index_or kept place None) (are.each place part at);
      }
