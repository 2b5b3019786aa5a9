-- Whether a component is settled, and whether a key is what it is due, by the rows of the book.
use Rattle.std.proofs.Common.{◌≡◌, ℕ, Bool, true, false, cond, List, map, length, slice_get, slice_index_or, is_some, Some, None, Option}
use Rattle.std.proofs.Common.{refl, sym, ap, ◌∙◌, subst, option_map, get_or, All, IsSome}
use Rattle.std.specs.List.{list_all}
use Rattle.std.proofs.lemmas.Option.{slice_get-get_or}
use Rattle.shape_data.specs.declared.answer.Callee.{Callee}
use Rattle.shape_data.specs.declared.answer.Key.{Key}
use Rattle.shape_data.specs.declared.program.Program.{Program}
use Rattle.call_components.specs.Reaching.{marked}
use Rattle.component_keys.specs.Keys.{Component, Outer, flows_of, names_of, key_over, program_components}
use Rattle.component_keys.specs.Tests.{key_test}
use Rattle.component_keys.proofs.Basics.{not_none, some_same, at_map}
use Rattle.composed_keys.specs.declared.rows.Component.{Component as ComponentRow}
use Rattle.composed_keys.specs.declared.rows.Outer.{Outer as OuterRow}
use Rattle.composed_keys.specs.Rows.{IsWithin, component_value}
use Rattle.claim_core.specs.declared.event.Event.{Event as Told}
use Rattle.claim_core.specs.Told.{events_of}
use Rattle.claim_laws.specs.Invariant.{IsDueAt}
use Rattle.claim_laws.specs.World.{World, Slot, Standing, Out, slot_of, settled_by, due_over, standings}
use Rattle.claim_laws.specs.Logs.{replay, settled_at}
use Rattle.claim_laws.proofs.Defined.{standings_as_defined}
use Rattle.summary_book.specs.declared.rows.OutRow.{OutRow}
use Rattle.summary_book.specs.declared.rows.Parts.{Parts}
use Rattle.summary_book.specs.declared.rows.SlotRow.{SlotRow}
use Rattle.summary_book.specs.Places.{key_at}
use Rattle.summary_book.specs.Rows.{AreMarks, IsOutRow, IsSight, IsSlot, IsSlotAt, is_fit, is_fit_at, known_row, row_answer}
use Rattle.summary_book.specs.Settled.{HasKnown, IsBlocked, IsExactAt}
use Rattle.summary_book.proofs.Standings.{StandsAt, stands_at, settled_of, some_settled, not_settled, own_place}
use Rattle.summary_book.proofs.Callees.{given_all, given_none, somes_same, all_at_place, not_all, row_of, value_at}

pub bool_cases : (b : Bool) → (b ≡ false → b ≡ true) → b ≡ true
bool_cases true h = refl
bool_cases false h = h refl

module _ (log : List Told) (parts : Parts) (slots : List (Option SlotRow)) (sight : IsSight log parts slots) (place : ℕ)
    (row : ComponentRow) (at_row : slice_get parts.components.items place ≡ Some row) where
  abbrev pub world : World
  world = replay (events_of log)

  abbrev pub program : Program
  program = parts.program.value

  abbrev pub part : Component
  part = component_value (flows_of program) row

  pub at_part : slice_get (program_components world.program) place ≡ Some part
  at_part =
      ap (λ p. slice_get (program_components p) place) (sym sight.program_is) ∙ ap (λ l. slice_get l place) (sym sight.parts_are.components)
      ∙
      at_map (component_value (flows_of program)) parts.components.items place ∙ ap (option_map (component_value (flows_of program))) at_row

  pub within : IsWithin (length program.procs) place row
  within = sight.parts_are.within place row at_row

  pub stands : StandsAt world place part
  stands = stands_at world place part at_part

  pub due_is : stands.standing.due ≡ due_over world.program.structs (standings world) part
  due_is = (standings_as_defined world place stands.standing stands.at).due
      ∙ ap (due_over world.program.structs (standings world)) stands.part_is

  pub settled_is : stands.standing.settled ≡ settled_by (slot_of world.slots (names_of part.flows)) stands.standing.due
  settled_is =
      (standings_as_defined world place stands.standing stands.at).settled
      ∙ ap (λ (p : Component). settled_by (slot_of world.slots (names_of p.flows)) stands.standing.due) stands.part_is

  -- each that it calls is settled
  abbrev pub AreSettled : Type 0
  AreSettled = (k : ℕ) (outer : OuterRow) → slice_get row.outer.items k ≡ Some outer →
      (slot : Slot) × (settled_at world outer.component ≡ Some slot)

  pub all_settled : (marks : List Bool) → AreMarks world marks →
      list_all (λ (outer : OuterRow). marked marks outer.component) row.outer.items ≡ true → AreSettled
  all_settled marks are all k outer at =
      some_settled (settled_at world outer.component)
      (are.settled outer.component (all_at_place (λ (one : OuterRow). marked marks one.component) row.outer.items all k outer at))

  -- then it is due the key over what is known of them
  pub due_known : AreSettled → (callees : List Callee) × (stands.standing.due ≡ Some (key_over world.program.structs part.flows callees)) ×
      (map (known_row program log slots) row.outer.items ≡ map (λ (callee : Callee). Some callee) callees)
  due_known settled =
      let given_is = given_all world program log slots sight.slots_are row.outer.items within.outer settled in
      (given_is.0, due_is ∙ ap (option_map (key_over world.program.structs part.flows)) given_is.1, given_is.2)

  -- else it is due none
  pub due_none : (k : ℕ) (outer : OuterRow) → slice_get row.outer.items k ≡ Some outer → settled_at world outer.component ≡ None →
      stands.standing.due ≡ None
  due_none k outer at none = due_is
      ∙ ap (option_map (key_over world.program.structs part.flows))
      (given_none world program log slots sight.slots_are row.outer.items within.outer k outer at none)

  pub unsettled_without : stands.standing.due ≡ None → stands.standing.settled ≡ None
  unsettled_without none = settled_is ∙ ap (settled_by (slot_of world.slots (names_of part.flows))) none
      ∙ by_slot (slot_of world.slots (names_of part.flows))
    where
      by_slot : (o : Option Slot) → settled_by o None ≡ None
      by_slot None = refl
      by_slot (Some slot) = refl

  -- where marks are exact and one that it calls is not marked, it is due none
  pub blocked : (marks : List Bool) → IsExactAt world marks place →
      list_all (λ (outer : OuterRow). marked marks outer.component) row.outer.items ≡ false → IsBlocked world place
  blocked marks exact not =
      let one = not_all (λ (outer : OuterRow). marked marks outer.component) row.outer.items not in
      let value = value_at program row.outer.items within.outer one.0 one.1 one.2 in
      let none : settled_at world one.1.component ≡ None =
      not_settled (settled_at world one.1.component)
      (by_test (is_some (settled_at world one.1.component)) one.1 refl one.3 value.0 value.2 (exact part one.0 value.0 at_part value.1)) in
      let no_due = due_none one.0 one.1 one.2 none in
      record { standing = stands.standing; at = stands.at; settled = unsettled_without no_due; due = no_due }
    where
      by_test : (b : Bool) → (outer : OuterRow) → is_some (settled_at world outer.component) ≡ b → marked marks outer.component ≡ false →
          (value : Outer) → value.component ≡ outer.component →
          (is_some (settled_at world value.component) ≡ true → marked marks value.component ≡ true) → b ≡ false
      by_test false outer is unmarked value same exact_there = refl
      by_test true outer is unmarked value same exact_there =
          let there : marked marks value.component ≡ true = exact_there (ap (λ n. is_some (settled_at world n)) same ∙ is) in
          let never : true ≡ false = sym there ∙ ap (marked marks) same ∙ unmarked in
          cc

  -- ---- keys

  -- a key that fits over the callees known is due
  pub key_is_due : (key : Key) (callees : List Callee) →
      map (known_row program log slots) row.outer.items ≡ map (λ (callee : Callee). Some callee) callees →
      is_fit world.program (Some part) key ≡ true →
      map (known_row program log slots) row.outer.items ≡ map (λ (callee : Callee). Some callee) key.callees →
      key ≡ key_over world.program.structs part.flows callees
  key_is_due key callees known fits same =
      (key_test.1 key (key_over world.program.structs part.flows key.callees)).0 fits
      ∙ ap (key_over world.program.structs part.flows) (somes_same key.callees callees (sym same ∙ known))

  -- and the due key fits and has them
  pub due_fits : (key : Key) (callees : List Callee) →
      map (known_row program log slots) row.outer.items ≡ map (λ (callee : Callee). Some callee) callees →
      key ≡ key_over world.program.structs part.flows callees →
      (is_fit world.program (Some part) key ≡ true)
      × (map (known_row program log slots) row.outer.items ≡ map (λ (callee : Callee). Some callee) key.callees)
  due_fits key callees known is =
      let own : key.callees ≡ callees = ap (λ (k : Key). k.callees) is in (
        (key_test.1 key (key_over world.program.structs part.flows key.callees)).1
            (is ∙ ap (key_over world.program.structs part.flows) (sym own)),
        known ∙ ap (map (λ (callee : Callee). Some callee)) (sym own),
      )

  -- ---- its slot

  pub slot_is : IsSlot log world.slots world.program part (slice_index_or slots place None)
  slot_is = sight.slots_are.each place part at_part

  pub unsettled_empty : slice_index_or slots place None ≡ None → settled_at world place ≡ None
  unsettled_empty none = settled_of world place stands.standing stands.at ∙ settled_is
      ∙ ap (λ o. settled_by o stands.standing.due) (subst (IsSlot log world.slots world.program part) none slot_is)

  pub slot_at : (srow : SlotRow) → slice_index_or slots place None ≡ Some srow → IsSlotAt log world.slots world.program part srow
  slot_at srow is = subst (IsSlot log world.slots world.program part) is slot_is

  -- settled goes by the test of its slot's key
  pub settled_by_test : (srow : SlotRow) (is : slice_index_or slots place None ≡ Some srow) (callees : List Callee) →
      stands.standing.due ≡ Some (key_over world.program.structs part.flows callees) → (b : Bool) →
      key_test.0 (slot_at srow is).key (key_over world.program.structs part.flows callees) ≡ b →
      option_map (λ (slot : Slot). slot.claim) (settled_at world place) ≡ cond b (Some srow.claim) None
  settled_by_test srow is callees due b test =
      ap (option_map (λ (slot : Slot). slot.claim))
      (settled_of world place stands.standing stands.at ∙ settled_is ∙ ap (λ o. settled_by o stands.standing.due) (slot_at srow is).slot ∙
      ap (settled_by
      (Some (record {
        members = names_of part.flows;
        claim = srow.claim;
        key = (slot_at srow is).key;
        answer = (slot_at srow is).answer;
      }))) due) ∙
      ap
      (λ c. option_map (λ (slot : Slot). slot.claim)
      (cond c (Some
      (record {
        members = names_of part.flows;
        claim = srow.claim;
        key = (slot_at srow is).key;
        answer = (slot_at srow is).answer;
      })) None)) test ∙
      by_test b
    where
      by_test : (c : Bool) →
          option_map (λ (slot : Slot). slot.claim)
          (cond c (Some
          (record {
            members = names_of part.flows;
            claim = srow.claim;
            key = (slot_at srow is).key;
            answer = (slot_at srow is).answer;
          })) None) ≡
          cond c (Some srow.claim) None
      by_test true = refl
      by_test false = refl

  pub settled_kept : AreSettled → (srow : SlotRow) → slice_index_or slots place None ≡ Some srow → srow.fits ≡ true →
      HasKnown program log slots row.outer.items (key_at log srow.claimed) →
      option_map (λ (slot : Slot). slot.claim) (settled_at world place) ≡ Some srow.claim
  settled_kept settled srow is fits has =
      let known = due_known settled in
      let slot = slot_at srow is in
      let same : map (known_row program log slots) row.outer.items ≡ map (λ (callee : Callee). Some callee) slot.key.callees =
      subst (HasKnown program log slots row.outer.items) slot.key_is has in
      settled_by_test srow is known.0 known.1 true
      ((key_test.1 slot.key _).1 (key_is_due slot.key known.0 known.2 (sym slot.fits ∙ fits) same))

  pub settled_other : AreSettled → (srow : SlotRow) → slice_index_or slots place None ≡ Some srow →
      (srow.fits ≡ true → HasKnown program log slots row.outer.items (key_at log srow.claimed) → ⊥) →
      option_map (λ (slot : Slot). slot.claim) (settled_at world place) ≡ None
  settled_other settled srow is never =
      let known = due_known settled in
      let slot = slot_at srow is in
      settled_by_test srow is known.0 known.1 false
      (by_test (key_test.0 slot.key (key_over world.program.structs part.flows known.0)) slot known.0 known.2 refl)
    where
      by_test : (b : Bool) (slot : IsSlotAt log world.slots world.program part srow) (callees : List Callee) →
          map (known_row program log slots) row.outer.items ≡ map (λ (callee : Callee). Some callee) callees →
          key_test.0 slot.key (key_over world.program.structs part.flows callees) ≡ b → b ≡ false
      by_test false slot callees known e = refl
      by_test true slot callees known e =
          let fits = due_fits slot.key callees known ((key_test.1 slot.key (key_over world.program.structs part.flows callees)).0 e) in
          absurd (never (slot.fits ∙ fits.0) (subst (HasKnown program log slots row.outer.items) (sym slot.key_is) fits.1))

  -- ---- an outstanding claim's key

  pub own_due : (key : Key) → IsDueAt world place key → stands.standing.due ≡ Some key
  own_due key due = ap (λ (s : Standing). s.due) (some_same (sym stands.at ∙ due.at)) ∙ due.due

  pub settled_where_due : (key : Key) → IsDueAt world place key → AreSettled
  settled_where_due key due k outer at = by_slot (settled_at world outer.component) refl (λ none. due_none k outer at none)
    where
      by_slot : (o : Option Slot) → settled_at world outer.component ≡ o →
          (settled_at world outer.component ≡ None → stands.standing.due ≡ None) →
          (slot : Slot) × (settled_at world outer.component ≡ Some slot)
      by_slot None e none = not_none (sym (none e) ∙ own_due key due)
      by_slot (Some slot) e none = (slot, e)

  fit_here : (key : Key) → is_fit_at program (Some place) key ≡ is_fit world.program (Some part) key
  fit_here key = ap (λ p. is_fit_at p (Some place) key) sight.program_is ∙ ap (λ o. is_fit world.program o key) at_part

  pub out_holds : (key : Key) (orow : OutRow) (claim : Out) → IsDueAt world place key → IsOutRow log program orow claim →
      orow.here ≡ Some place → orow.fits ≡ true →
      HasKnown program log slots row.outer.items (key_at log orow.claimed) → claim.key ≡ key
  out_holds key orow claim due is here fits has =
      let known = due_known (settled_where_due key due) in
      let same : map (known_row program log slots) row.outer.items ≡ map (λ (callee : Callee). Some callee) claim.key.callees =
      subst (HasKnown program log slots row.outer.items) is.key_is has in
      let fit : is_fit world.program (Some part) claim.key ≡ true =
      sym (fit_here claim.key) ∙ ap (λ o. is_fit_at program o claim.key) (sym here) ∙ sym is.fits ∙ fits in
      key_is_due claim.key known.0 known.2 fit same ∙ some_same (sym known.1 ∙ own_due key due)

  pub holds_out : (key : Key) (orow : OutRow) (claim : Out) → IsDueAt world place key → IsOutRow log program orow claim → claim.key ≡ key →
      (orow.here ≡ Some place) × (orow.fits ≡ true) × HasKnown program log slots row.outer.items (key_at log orow.claimed)
  holds_out key orow claim due is same =
      let known = due_known (settled_where_due key due) in
      let composed : claim.key ≡ key_over world.program.structs part.flows known.0 = same ∙ some_same (sym (own_due key due) ∙ known.1) in
      let fits = due_fits claim.key known.0 known.2 composed in
      let own : slice_get (program_components program) place ≡ Some part =
      ap (λ p. slice_get (program_components p) place) sight.program_is ∙ at_part in
      let here : orow.here ≡ Some place =
      is.here ∙ own_place program place part (names_of claim.key.procs) own (ap (λ (k : Key). names_of k.procs) (sym composed)) in (
        here,
        is.fits ∙ ap (λ o. is_fit_at program o claim.key) here ∙ fit_here claim.key
            ∙ fits.0,
        subst (HasKnown program log slots row.outer.items) (sym is.key_is) fits.1,
      )

  -- each that it calls has an answer, where it is due a key
  pub all_answered : (key : Key) → IsDueAt world place key →
      All (λ (outer : OuterRow). IsSome (row_answer log (slice_index_or slots outer.component None))) row.outer.items
  all_answered key due k d lt =
      let slot = settled_where_due key due k (get_or row.outer.items k d) (slice_get-get_or row.outer.items k d lt) in
      ap is_some (row_of world log slots sight.slots_are (get_or row.outer.items k d).component slot.0 slot.1)

  -- the key over what is known is due
  pub composed_due : (key its : Key) (callees : List Callee) → IsDueAt world place key →
      map (known_row program log slots) row.outer.items ≡ map (λ (callee : Callee). Some callee) callees →
      its ≡ key_over program.structs part.flows callees → IsDueAt world place its
  composed_due key its callees due known is =
      let all = due_known (settled_where_due key due) in
      let same : callees ≡ all.0 = somes_same callees all.0 (sym known ∙ all.2) in
      record {
        standing = stands.standing;
        at = stands.at;
        due =
            all.1 ∙ ap (λ k. Some k)
            (ap (key_over world.program.structs part.flows) (sym same)
            ∙ ap (λ (p : Program). key_over p.structs part.flows callees) (sym sight.program_is) ∙ sym is);
      }
