-- What the book's rows are after each event.
use Rattle.std.proofs.Common.{◌≡◌, ℕ, zero, suc, ◌+◌, ◌<◌, ◌≤◌, ◌==◌, Bool, true, false, ◌&&◌, not, List, [], ◌∷◌, ◌++◌, length, slice_get}
use Rattle.std.proofs.Common.{slice_index_or, slice_set, is_some, Some, None, Option, refl, sym, ap, ◌∙◌, subst, arith}
use Rattle.std.specs.List.{AllZip, filter, remove}
use Rattle.std.proofs.lemmas.List.{map_push, length-set, get_or-set_same, get_or-set_other}
use Rattle.std.proofs.lemmas.Bool.Decides.{Decides-eqb}
use Rattle.std.proofs.lemmas.Option.{slice_get_within}
use Rattle.shape_data.specs.declared.answer.Answer.{Answer}
use Rattle.shape_data.specs.declared.answer.Key.{Key}
use Rattle.shape_data.specs.declared.program.Program.{Program}
use Rattle.call_components.specs.Reaching.{marked}
use Rattle.component_keys.specs.Components.{same_names}
use Rattle.component_keys.specs.Keys.{Component, names_of, key_over, program_components}
use Rattle.component_keys.specs.Tests.{key_test, program_test}
use Rattle.component_keys.proofs.Apart.{components_differ, names_same}
use Rattle.component_keys.proofs.Basics.{at_left, at_end, both_true, found, is_found, not_none, some_same}
use Rattle.key_laws.proofs.Elements.{zipped_weaker}
use Rattle.claim_core.specs.declared.event.Event.{Event as Told}
use Rattle.claim_core.specs.Told.{event_of, events_of}
use Rattle.claim_laws.specs.World.{World, Event, Slot, Out, but, happened, after, is_present, may_happen, out_of, put_slot, slot_for}
use Rattle.claim_laws.specs.World.{slot_of, slots_with, without, is_kept, may_publish}
use Rattle.claim_laws.specs.Logs.{IsLegal, IsSolved, first_world, replay, replay_from, settled_at}
use Rattle.claim_laws.proofs.Invariant.{replayed_world}
use Rattle.claim_laws.proofs.Once.{after_is, claim_needs}
use Rattle.claim_laws.proofs.Push.{IsLegal-push, replay_push, same_bool_same}
use Rattle.claim_laws.proofs.Still.{part_at, standings_known}
use Rattle.claim_laws.proofs.Steps.{IsNoRevise, by_may, settled_after, slot_of_other, slot_of_same}
use Rattle.summary_book.specs.declared.rows.OutRow.{OutRow}
use Rattle.summary_book.specs.declared.rows.Parts.{Parts}
use Rattle.summary_book.specs.declared.rows.SlotRow.{SlotRow}
use Rattle.summary_book.specs.Book.{AreRows}
use Rattle.summary_book.specs.Moved.{IsMoved, with_slot, with_slot_at}
use Rattle.summary_book.specs.Places.{answer_at, answer_in, key_at, key_in}
use Rattle.summary_book.specs.Rows.{AreMarks, AreOut, AreParts, AreSlots, IsOutRow, IsSight, IsSlot, IsSlotAt, is_fit, is_fit_at}
use Rattle.summary_book.proofs.Standings.{own_place, place_is}
use Rattle.summary_book.proofs.Lists.{rising_differ, without_place, zipped_at_end, zipped_through, zipped_without}

pub not_both : {A : Type 0} {b : Bool} → b ≡ true → b ≡ false → A
not_both t f = let never : true ≡ false = sym t ∙ f in cc

-- ---- a longer log

pub key_left : (log more : List Told) (place : ℕ) (key : Key) → key_at log place ≡ Some key → key_at (log ++ more) place ≡ Some key
key_left log more place key e = by_told (slice_get log place) refl e
  where
    by_told : (o : Option Told) → slice_get log place ≡ o → key_in o ≡ Some key → key_at (log ++ more) place ≡ Some key
    by_told None at f = not_none f
    by_told (Some told) at f = ap key_in (at_left log more place told at) ∙ f

pub answer_left : (log more : List Told) (place : ℕ) (answer : Answer) → answer_at log place ≡ Some answer →
    answer_at (log ++ more) place ≡ Some answer
answer_left log more place answer e = by_told (slice_get log place) refl e
  where
    by_told : (o : Option Told) → slice_get log place ≡ o → answer_in o ≡ Some answer → answer_at (log ++ more) place ≡ Some answer
    by_told None at f = not_none f
    by_told (Some told) at f = ap answer_in (at_left log more place told at) ∙ f

pub slot_left : (log more : List Told) (slots : List Slot) (program : Program) (part : Component) (o : Option SlotRow) →
    IsSlot log slots program part o → IsSlot (log ++ more) slots program part o
slot_left log more slots program part None is = is
slot_left log more slots program part (Some row) is =
    record {
      key = is.key;
      answer = is.answer;
      key_is = key_left log more row.claimed is.key is.key_is;
      answer_is = answer_left log more row.published is.answer is.answer_is;
      slot = is.slot;
      fits = is.fits;
    }

pub slots_left : (log more : List Told) (slots : List Slot) (program : Program) (rows : List (Option SlotRow)) →
    AreSlots log slots program rows → AreSlots (log ++ more) slots program rows
slots_left log more slots program rows are =
    record {
      lengths = are.lengths;
      each = λ place part at. slot_left log more slots program part (slice_index_or rows place None) (are.each place part at);
    }

out_row_left : (log more : List Told) (program : Program) (row : OutRow) (claim : Out) → IsOutRow log program row claim →
    IsOutRow (log ++ more) program row claim
out_row_left log more program row claim is =
    record { key_is = key_left log more row.claimed claim.key is.key_is; number = is.number; here = is.here; fits = is.fits }

pub out_left : (log more : List Told) (program : Program) (rows : List OutRow) (out : List Out) → AreOut log program rows out →
    AreOut (log ++ more) program rows out
out_left log more program rows out are =
    zipped_weaker (IsOutRow log program) (IsOutRow (log ++ more) program) (out_row_left log more program) rows out are

-- ---- the world and the log

pub told_events : (log : List Told) (told : Told) → events_of (log ++ told ∷ []) ≡ events_of log ++ event_of told ∷ []
told_events log told = map_push event_of log told

pub replay_told : (log : List Told) (told : Told) → may_happen (replay (events_of log)) (event_of told) ≡ true →
    replay (events_of (log ++ told ∷ [])) ≡ happened (replay (events_of log)) (event_of told)
replay_told log told may = ap replay (told_events log told) ∙ replay_push (events_of log) (event_of told)
    ∙ after_is (replay (events_of log)) (event_of told) may

pub legal_told : (solves : Key → Answer → Type 0) (log : List Told) (told : Told) → IsLegal solves (events_of log) →
    may_happen (replay (events_of log)) (event_of told) ≡ true →
    IsSolved solves (replay (events_of log)) (event_of told) → IsLegal solves (events_of (log ++ told ∷ []))
legal_told solves log told legal may solved =
    subst (IsLegal solves) (sym (told_events log told)) (IsLegal-push solves (events_of log) (event_of told) legal may solved)

pub sight_of : (log : List Told) (parts : Parts) (slots : List (Option SlotRow)) (marks : List Bool) (out : List OutRow)
    (revision made : ℕ) → AreRows (replay (events_of log)) log parts slots marks out revision made →
    IsSight log parts slots
sight_of log parts slots marks out revision made are =
    record { program_is = are.program_is; parts_are = are.parts_are; slots_are = are.slots_are }

-- ---- marks

some_stays : (o later : Option Slot) → ((slot : Slot) → o ≡ Some slot → later ≡ Some slot) → is_some o ≡ true → is_some later ≡ true
some_stays None later stays e = cc
some_stays (Some slot) later stays e = ap is_some (stays slot refl)

pub marks_after : (world : World) (event : Event) → IsNoRevise event → may_happen world event ≡ true →
    (happened world event).program ≡ world.program → (marks : List Bool) → AreMarks world marks →
    AreMarks (happened world event) marks
marks_after world event none may same marks are = record {
  lengths = are.lengths ∙ ap (λ p. length (program_components p)) (sym same);
  settled = λ place mark.
      some_stays (settled_at world place) (settled_at (happened world event) place)
      (λ slot e. subst (λ w. settled_at w place ≡ Some slot) (after_is world event may) (settled_after world event none place slot e))
      (are.settled place mark);
}

-- ---- a claim

pub composed_fits : (program : Program) (part : Component) (key : Key) (callees : _) → key ≡ key_over program.structs part.flows callees →
    is_fit program (Some part) key ≡ true
composed_fits program part key callees e =
    (key_test.1 key (key_over program.structs part.flows key.callees)).1
    (e ∙ ap (key_over program.structs part.flows) (sym (ap (λ (k : Key). k.callees) e)))

pub claimed_row : (log : List Told) (told : Told) (program : Program) (number worker component : ℕ) (key : Key) →
    program ≡ (replay (events_of log)).program → key_in (Some told) ≡ Some key →
    may_happen (replay (events_of log)) (Event.Claim number worker component key) ≡ true →
    IsOutRow (log ++ told ∷ []) program (record { number = number; claimed = length log; here = Some component; fits = true })
    (record { number = number; worker = worker; component = component; revision = (replay (events_of log)).revision; key = key })
claimed_row log told program number worker component key program_is is may =
    let world : World = replay (events_of log) in
    let needs = claim_needs world number worker component key may in
    let known = (standings_known world component needs.standing needs.at).due key needs.due in
    let at : slice_get (program_components program) component ≡ Some needs.standing.part =
    ap (λ p. slice_get (program_components p) component) program_is ∙ part_at world component needs.standing needs.at in
    let composed : key ≡ key_over program.structs needs.standing.part.flows known.0 =
    known.1 ∙ ap (λ (p : Program). key_over p.structs needs.standing.part.flows known.0) (sym program_is) in
    record {
      key_is = ap key_in (at_end log told) ∙ is;
      number = refl;
      here =
          sym (own_place program component needs.standing.part (names_of key.procs) at (ap (λ (k : Key). names_of k.procs) (sym composed)));
      fits = sym (ap (λ o. is_fit program o key) at ∙ composed_fits program needs.standing.part key known.0 composed);
    }

pub claimed_rows : (log : List Told) (parts : Parts) (slots : List (Option SlotRow)) (marks : List Bool) (out : List OutRow)
    (revision made : ℕ) → AreRows (replay (events_of log)) log parts slots marks out revision made →
    (told : Told) (number worker component : ℕ) (key : Key) → event_of told ≡ Event.Claim number worker component key →
    key_in (Some told) ≡ Some key →
    may_happen (replay (events_of log)) (Event.Claim number worker component key) ≡ true →
    AreRows (replay (events_of (log ++ told ∷ []))) (log ++ told ∷ []) parts slots marks
    (out ++ record { number = number; claimed = length log; here = Some component; fits = true } ∷ []) revision number
claimed_rows log parts slots marks out revision made are told number worker component key event_is is may =
    let world : World = replay (events_of log) in
    let event : Event = Event.Claim number worker component key in
    let one : OutRow = record { number = number; claimed = length log; here = Some component; fits = true } in
    subst (λ w. AreRows w (log ++ told ∷ []) parts slots marks (out ++ one ∷ []) revision number)
    (sym (replay_told log told (ap (may_happen world) event_is ∙ may) ∙ ap (happened world) event_is))
    (record {
      program_is = are.program_is;
      parts_are = are.parts_are;
      slots_are = slots_left log (told ∷ []) world.slots world.program slots are.slots_are;
      marks_are = marks_after world event tt may refl marks are.marks_are;
      out_are =
          zipped_at_end (IsOutRow (log ++ told ∷ []) world.program) out world.out one _
          (out_left log (told ∷ []) world.program out world.out are.out_are)
          (claimed_row log told world.program number worker component key refl is may);
      revision_is = are.revision_is;
      made_is = refl;
    })

-- ---- a claim's end

-- the claim at a place
pub own_claim : (log : List Told) (program : Program) (rows : List OutRow) (out : List Out) (i : ℕ) (row : OutRow) →
    AreOut log program rows out → slice_get rows i ≡ Some row →
    (claim : Out) × (slice_get out i ≡ Some claim) × IsOutRow log program row claim
own_claim log program [] out i row are at = not_none at
own_claim log program (first ∷ rows) [] i row are at = absurd are
own_claim log program (first ∷ rows) (claim ∷ out) zero row are at =
    (claim, refl, subst (λ r. IsOutRow log program r claim) (some_same at) are.0)
own_claim log program (first ∷ rows) (claim ∷ out) (suc i) row are at = own_claim log program rows out i row are.1 at

-- it is the one of its number
pub own_found : (log : List Event) (i : ℕ) (claim : Out) → slice_get (replay log).out i ≡ Some claim →
    out_of (replay log).out claim.number ≡ Some claim
own_found log i claim at =
    let world : World = replay log in
    let one =
    is_found (λ (other : Out). other.number == claim.number) world.out i claim at ((Decides-eqb claim.number claim.number).1 refl) in
    let there = found (λ (other : Out). other.number == claim.number) world.out one.0 one.1 in
    let same : one.0.number ≡ claim.number = (Decides-eqb one.0.number claim.number).0 there.0 in
    let place : there.1.0
    ≡ i =
    rising_differ (λ (other : Out). other.number) world.out (replayed_world log).out_rising there.1.0 i one.0 claim there.1.1 at same in
    one.1 ∙ sym there.1.1 ∙ ap (slice_get world.out) place ∙ at

-- and the others stay
pub others_stay : (log : List Event) (i : ℕ) (claim : Out) → slice_get (replay log).out i ≡ Some claim →
    without (replay log).out claim.number ≡ remove (replay log).out i
others_stay log i claim at =
    let world : World = replay log in
    without_place (λ (other : Out). other.number) world.out i claim.number claim at refl
    (λ j other there same. rising_differ (λ (one : Out). one.number) world.out
    (replayed_world log).out_rising j i other claim there at same)

ended_out : (log : List Told) (told : Told) (program : Program) (rows : List OutRow) (i : ℕ) (claim : Out) →
    AreOut log program rows (replay (events_of log)).out → slice_get (replay (events_of log)).out i ≡ Some claim →
    AreOut (log ++ told ∷ []) program (remove rows i) (without (replay (events_of log)).out claim.number)
ended_out log told program rows i claim are at =
    subst (AreOut (log ++ told ∷ []) program (remove rows i)) (sym (others_stay (events_of log) i claim at))
    (zipped_without (IsOutRow (log ++ told ∷ []) program) rows (replay (events_of log)).out i
    (out_left log (told ∷ []) program rows (replay (events_of log)).out are))

pub may_give_back : (log : List Event) (i : ℕ) (claim : Out) → slice_get (replay log).out i ≡ Some claim →
    may_happen (replay log) (Event.GiveBack claim.number) ≡ true
may_give_back log i claim at = ap is_some (own_found log i claim at)

pub given_rows : (log : List Told) (parts : Parts) (slots : List (Option SlotRow)) (marks : List Bool) (out : List OutRow)
    (revision made : ℕ) → AreRows (replay (events_of log)) log parts slots marks out revision made →
    (told : Told) (i number : ℕ) (claim : Out) → event_of told ≡ Event.GiveBack number →
    slice_get (replay (events_of log)).out i ≡ Some claim → claim.number ≡ number →
    AreRows (replay (events_of (log ++ told ∷ []))) (log ++ told ∷ []) parts slots marks (remove out i) revision made
given_rows log parts slots marks out revision made are told i number claim event_is at number_is =
    let world : World = replay (events_of log) in
    let event : Event = Event.GiveBack claim.number in
    let is : event_of told ≡ event = event_is ∙ ap (λ n. Event.GiveBack n) (sym number_is) in
    let may = may_give_back (events_of log) i claim at in
    subst (λ w. AreRows w (log ++ told ∷ []) parts slots marks (remove out i) revision made)
    (sym (replay_told log told (ap (may_happen world) is ∙ may) ∙ ap (happened world) is))
    (record {
      program_is = are.program_is;
      parts_are = are.parts_are;
      slots_are = slots_left log (told ∷ []) world.slots world.program slots are.slots_are;
      marks_are = marks_after world event tt may refl marks are.marks_are;
      out_are = ended_out log told world.program out i claim are.out_are at;
      revision_is = are.revision_is;
      made_is = are.made_is;
    })

-- ---- an answer

-- the slot of a component, where the slots look the same to it
slot_same : (log : List Told) (slots later : List Slot) (program : Program) (part : Component) (o : Option SlotRow) →
    slot_of later (names_of part.flows) ≡ slot_of slots (names_of part.flows) →
    IsSlot log slots program part o → IsSlot log later program part o
slot_same log slots later program part None e is = e ∙ is
slot_same log slots later program part (Some row) e is =
    record { key = is.key; answer = is.answer; key_is = is.key_is; answer_is = is.answer_is; slot = e ∙ is.slot; fits = is.fits }

-- the slots with one more, by the rows with one more
module _ (log : List Told) (told : Told) (slots : List Slot) (program : Program) (rows : List (Option SlotRow)) (row : OutRow) (claim : Out)
    (answer : Answer) (here : ℕ)
    (are : AreSlots log slots program rows) (is : IsOutRow log program row claim) (here_is : row.here ≡ Some here)
    (told_is : answer_in (Some told) ≡ Some answer) where
  abbrev new_row : SlotRow
  new_row = record { claim = row.number; claimed = row.claimed; published = length log; fits = row.fits }

  abbrev new_slots : List Slot
  new_slots = put_slot (slot_for claim answer) (but slots (names_of claim.key.procs))

  abbrev new_rows : List (Option SlotRow)
  new_rows = slice_set rows here (Some new_row)

  own_part : (part : Component) × (slice_get (program_components program) here ≡ Some part)
      × (names_of part.flows ≡ names_of claim.key.procs)
  own_part = place_is program (names_of claim.key.procs) here (sym is.here ∙ here_is)

  own_slot : (part : Component) → slice_get (program_components program) here ≡ Some part → names_of part.flows ≡ names_of claim.key.procs →
      IsSlotAt (log ++ told ∷ []) new_slots program part new_row
  own_slot part at names = record {
    key = claim.key;
    answer = answer;
    key_is = key_left log (told ∷ []) row.claimed claim.key is.key_is;
    answer_is = ap answer_in (at_end log told) ∙ told_is;
    slot = ap (slot_of new_slots) names ∙ slot_of_same (slot_for claim answer) slots
        ∙ (λ i. Some (record { members = sym names i; claim = sym is.number i; key = claim.key; answer = answer }));
    fits = is.fits ∙ ap (λ o. is_fit_at program o claim.key) here_is ∙ ap (λ o. is_fit program o claim.key) at;
  }

  differ : (place : ℕ) (part : Component) → slice_get (program_components program) place ≡ Some part → (place ≡ here → ⊥) → (b : Bool) →
      same_names (names_of claim.key.procs) (names_of part.flows) ≡ b → b ≡ false
  differ place part at other false f = refl
  differ place part at other true f =
      absurd (other
      (components_differ program place here part own_part.0 at own_part.1
      (sym ((names_same (names_of claim.key.procs) (names_of part.flows)).0 f) ∙ sym own_part.2)))

  each_slot : (place : ℕ) (part : Component) → slice_get (program_components program) place ≡ Some part → (b : Bool) → (place == here) ≡ b →
      IsSlot (log ++ told ∷ []) new_slots program part (slice_index_or new_rows place None)
  each_slot place part at true e =
      let same : place ≡ here = (Decides-eqb place here).0 e in
      let here_at : slice_get (program_components program) here ≡ Some part = ap (slice_get (program_components program)) (sym same) ∙ at in
      let names : names_of part.flows ≡ names_of claim.key.procs =
      ap (λ (p : Component). names_of p.flows) (some_same (sym here_at ∙ own_part.1)) ∙ own_part.2 in
      let less : here < length (program_components program) = slice_get_within (program_components program) here part here_at in
      let count : length rows ≡ length (program_components program) = are.lengths in
      subst (IsSlot (log ++ told ∷ []) new_slots program part)
      (sym (ap (λ n. slice_index_or new_rows n None) same ∙ get_or-set_same rows here (Some new_row) None (omega (arith, less, count))))
      (own_slot part here_at names)
  each_slot place part at false e =
      let other : place ≡ here → ⊥ = λ same. not_both ((Decides-eqb place here).1 same) e in
      subst (IsSlot (log ++ told ∷ []) new_slots program part) (sym (get_or-set_other rows here place (Some new_row) None other))
      (slot_same (log ++ told ∷ []) slots new_slots program part (slice_index_or rows place None)
      (slot_of_other (slot_for claim answer) slots (names_of part.flows)
      (differ place part at other (same_names (names_of claim.key.procs) (names_of part.flows)) refl))
      (slot_left log (told ∷ []) slots program part (slice_index_or rows place None) (are.each place part at)))

  pub kept_slots : AreSlots (log ++ told ∷ []) new_slots program new_rows
  kept_slots =
      record {
        lengths = length-set rows here (Some new_row) ∙ are.lengths;
        each = λ place part at. each_slot place part at (place == here) refl;
      }

pub may_publish_at : (log : List Event) (i : ℕ) (claim : Out) (answer : Answer) (kept : Bool) → slice_get (replay log).out i ≡ Some claim →
    kept ≡ is_kept (replay log) claim →
    may_happen (replay log) (Event.Publish claim.number answer kept) ≡ true
may_publish_at log i claim answer kept at is =
    ap (may_publish (replay log) kept) (own_found log i claim at) ∙ same_bool_same kept (is_kept (replay log) claim) is

-- an answer that is not kept
pub stale_rows : (log : List Told) (parts : Parts) (slots : List (Option SlotRow)) (marks : List Bool) (out : List OutRow)
    (revision made : ℕ) → AreRows (replay (events_of log)) log parts slots marks out revision made →
    (told : Told) (i number : ℕ) (claim : Out) (answer : Answer) → event_of told ≡ Event.Publish number answer false →
    slice_get (replay (events_of log)).out i ≡ Some claim → claim.number ≡ number →
    is_kept (replay (events_of log)) claim ≡ false →
    AreRows (replay (events_of (log ++ told ∷ []))) (log ++ told ∷ []) parts slots marks (remove out i) revision made
stale_rows log parts slots marks out revision made are told i number claim answer event_is at number_is stale =
    let world : World = replay (events_of log) in
    let event : Event = Event.Publish claim.number answer false in
    let is : event_of told ≡ event = event_is ∙ ap (λ n. Event.Publish n answer false) (sym number_is) in
    let may = may_publish_at (events_of log) i claim answer false at (sym stale) in
    let same : slots_with world.slots false answer (out_of world.out claim.number) ≡ world.slots =
    ap (slots_with world.slots false answer) (own_found (events_of log) i claim at) in
    subst (λ w. AreRows w (log ++ told ∷ []) parts slots marks (remove out i) revision made)
    (sym (replay_told log told (ap (may_happen world) is ∙ may) ∙ ap (happened world) is))
    (record {
      program_is = are.program_is;
      parts_are = are.parts_are;
      slots_are =
          subst (λ s. AreSlots (log ++ told ∷ []) s world.program slots) (sym same)
          (slots_left log (told ∷ []) world.slots world.program slots are.slots_are);
      marks_are = marks_after world event tt may refl marks are.marks_are;
      out_are = ended_out log told world.program out i claim are.out_are at;
      revision_is = are.revision_is;
      made_is = are.made_is;
    })

-- an answer that is kept
pub kept_rows : (log : List Told) (parts : Parts) (slots : List (Option SlotRow)) (marks : List Bool) (out : List OutRow)
    (revision made : ℕ) → AreRows (replay (events_of log)) log parts slots marks out revision made →
    (told : Told) (i number here : ℕ) (row : OutRow) (claim : Out) (answer : Answer) → event_of told ≡ Event.Publish number answer true →
    answer_in (Some told) ≡ Some answer →
    slice_get (replay (events_of log)).out i ≡ Some claim → claim.number ≡ number → is_kept (replay (events_of log)) claim ≡ true →
    IsOutRow log parts.program.value row claim → row.here ≡ Some here →
    AreRows (replay (events_of (log ++ told ∷ []))) (log ++ told ∷ []) parts (with_slot slots row (length log)) marks
    (remove out i) revision made
kept_rows log parts slots marks out revision made are told i number here row claim answer event_is answer_is at number_is kept row_is
    here_is =
    let world : World = replay (events_of log) in
    let event : Event = Event.Publish claim.number answer true in
    let is : event_of told ≡ event = event_is ∙ ap (λ n. Event.Publish n answer true) (sym number_is) in
    let may = may_publish_at (events_of log) i claim answer true at (sym kept) in
    let later : List Slot = put_slot (slot_for claim answer) (but world.slots (names_of claim.key.procs)) in
    let same : slots_with world.slots true answer (out_of world.out claim.number) ≡ later =
    ap (slots_with world.slots true answer) (own_found (events_of log) i claim at) in
    let new : SlotRow = record { claim = row.number; claimed = row.claimed; published = length log; fits = row.fits } in
    let own : IsOutRow log world.program row claim = subst (λ p. IsOutRow log p row claim) are.program_is row_is in
    subst (λ w. AreRows w (log ++ told ∷ []) parts (with_slot slots row (length log)) marks (remove out i) revision made)
    (sym (replay_told log told (ap (may_happen world) is ∙ may) ∙ ap (happened world) is))
    (record {
      program_is = are.program_is;
      parts_are = are.parts_are;
      slots_are = subst (λ s. AreSlots (log ++ told ∷ []) s world.program (with_slot slots row (length log))) (sym same)
          (subst (λ o. AreSlots (log ++ told ∷ []) later world.program (with_slot_at slots o new)) (sym here_is)
          (kept_slots log told world.slots world.program slots row claim answer here are.slots_are own here_is answer_is));
      marks_are = marks_after world event tt may refl marks are.marks_are;
      out_are = ended_out log told world.program out i claim are.out_are at;
      revision_is = are.revision_is;
      made_is = are.made_is;
    })

-- ---- another program

moved_row : (log : List Told) (program other : Program) (row later : OutRow) (claim : Out) → IsOutRow log program row claim →
    IsMoved log other row later → IsOutRow log other later claim
moved_row log program other row later claim is moved = record {
  key_is = ap (key_at log) moved.claimed ∙ is.key_is;
  number = moved.number ∙ is.number;
  here = moved.here claim.key is.key_is;
  fits = moved.fits claim.key is.key_is;
}

pub revised_rows : (log : List Told) (parts later : Parts) (slots rows : List (Option SlotRow)) (marks unmarked : List Bool)
    (out moved : List OutRow) (revision made : ℕ) →
    AreRows (replay (events_of log)) log parts slots marks out revision made → (told : Told) (next : ℕ) (program : Program) →
    event_of told ≡ Event.Revise next program →
    may_happen (replay (events_of log)) (Event.Revise next program) ≡ true → later.program.value ≡ program → AreParts later →
    AreSlots log (filter (is_present program) (replay (events_of log)).slots) program rows →
    length unmarked ≡ length (program_components program) → ((place : ℕ) → marked unmarked place ≡ false) →
    AllZip (IsMoved log program) out moved →
    AreRows (replay (events_of (log ++ told ∷ []))) (log ++ told ∷ []) later rows unmarked moved next made
revised_rows log parts later slots rows marks unmarked out moved revision made are told next program event_is may program_is parts_are
    slots_are lengths none moved_are =
    let world : World = replay (events_of log) in
    subst (λ w. AreRows w (log ++ told ∷ []) later rows unmarked moved next made)
    (sym (replay_told log told (ap (may_happen world) event_is ∙ may) ∙ ap (happened world) event_is))
    (record {
      program_is = program_is;
      parts_are = parts_are;
      slots_are = slots_left log (told ∷ []) (filter (is_present program) world.slots) program rows slots_are;
      marks_are = record { lengths = lengths; settled = λ place mark. absurd (not_both mark (none place)) };
      out_are = out_left log (told ∷ []) program moved world.out
          (zipped_through (IsOutRow log world.program) (IsMoved log program) (IsOutRow log program) out moved world.out
          (λ row l claim. moved_row log world.program program row l claim) are.out_are moved_are);
      revision_is = refl;
      made_is = are.made_is;
    })

pub may_revise : (world : World) (revision : ℕ) (program : Program) → revision ≡ world.revision + 1 → (program ≡ world.program → ⊥) →
    may_happen world (Event.Revise revision program) ≡ true
may_revise world revision program next other =
    ap (λ b. b && (revision == world.revision + 1)) (by_test (program_test.0 program world.program) refl)
    ∙ (Decides-eqb revision (world.revision + 1)).1 next
  where
    by_test : (b : Bool) → program_test.0 program world.program ≡ b → not b ≡ true
    by_test false e = refl
    by_test true e = absurd (other ((program_test.1 program world.program).0 e))

-- ---- numbers

made_from : (world : World) (log : List Event) → (replay_from world log).made ≤ world.made + length log
made_from world [] = omega arith
made_from world (event ∷ others) =
    let rest : (replay_from (after world event) others).made ≤ (after world event).made + length others =
    made_from (after world event) others in
    let one : (after world event).made ≤ world.made + 1 =
    by_may world event (λ w. w.made ≤ world.made + 1) (made_more event) (omega arith) in
    omega (arith, rest, one)
  where
    made_more : (event : Event) → may_happen world event ≡ true → (happened world event).made ≤ world.made + 1
    made_more (Event.Revise revision program) may = omega arith
    made_more (Event.Claim number worker component key) may =
        let is = (claim_needs world number worker component key may).number_is in omega (arith, is)
    made_more (Event.Publish number answer kept) may = omega arith
    made_more (Event.GiveBack number) may = omega arith

-- there are at most as many claims as events
pub made_few : (log : List Event) → (replay log).made ≤ length log
made_few log = let all : (replay log).made ≤ 0 + length log = made_from first_world log in omega (arith, all)

revision_from : (world : World) (log : List Event) → (replay_from world log).revision ≤ world.revision + length log
revision_from world [] = omega arith
revision_from world (event ∷ others) =
    let rest : (replay_from (after world event) others).revision ≤ (after world event).revision + length others =
    revision_from (after world event) others in
    let one : (after world event).revision ≤ world.revision + 1 =
    by_may world event (λ w. w.revision ≤ world.revision + 1) (revision_more event) (omega arith) in
    omega (arith, rest, one)
  where
    revision_more : (event : Event) → may_happen world event ≡ true → (happened world event).revision ≤ world.revision + 1
    revision_more (Event.Revise revision program) may =
        let is : revision ≡ world.revision + 1 =
        (Decides-eqb revision (world.revision + 1)).0 (both_true (not (program_test.0 program world.program)) _ may).1 in omega
        (arith, is)
    revision_more (Event.Claim number worker component key) may = omega arith
    revision_more (Event.Publish number answer kept) may = omega arith
    revision_more (Event.GiveBack number) may = omega arith

-- and as many revisions
pub revision_few : (log : List Event) → (replay log).revision ≤ length log
revision_few log = let all : (replay log).revision ≤ 0 + length log = revision_from first_world log in omega (arith, all)
