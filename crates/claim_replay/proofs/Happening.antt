-- What an event does, from what the parts of a world became.
use Rattle.std.proofs.Common.{◌≡◌, ℕ, zero, suc, ◌+◌, ◌<◌, ◌≤◌, ◌==◌, nat_lt, Bool, true, false, cond, not, List, [], ◌∷◌, ◌++◌, length}
use Rattle.std.proofs.Common.{map, take, get_or, slice_get, insert, Some, None, refl, sym, ap, ◌∙◌, subst, filter, arith, option_map}
use Rattle.std.proofs.Common.{is_some}
use Rattle.std.specs.Bool.{beq}
use Rattle.std.specs.List.{list_any}
use Rattle.std.specs.Prelude.{position}
use Rattle.std.proofs.lemmas.Bool.Decides.{Decides-ltb}
use Rattle.std.proofs.lemmas.List.{map-append, take_more}
use Rattle.std.proofs.lemmas.List.Elements.{filter_agree}
use Rattle.std.proofs.lemmas.Option.{slice_get-get_or}
use Rattle.shape_data.specs.declared.answer.Answer.{Answer}
use Rattle.shape_data.specs.declared.program.Program.{Program}
use Rattle.component_keys.specs.Components.{same_names}
use Rattle.component_keys.specs.Keys.{Component, flows_of, names_of, program_components}
use Rattle.component_keys.specs.Tests.{program_test}
use Rattle.component_keys.proofs.Basics.{at_map, some_same}
use Rattle.call_components.specs.Tables.{at_place}
use Rattle.composed_keys.specs.declared.rows.Component.{Component as Row}
use Rattle.composed_keys.specs.Rows.{component_value}
use Rattle.composed_keys.proofs.Calls.{position_map}
use Rattle.claim_core.specs.declared.event.Event.{Event as Told}
use Rattle.claim_core.specs.Told.{event_of, events_of}
use Rattle.claim_laws.specs.declared.published.Published.TheVariants.{Stale}
use Rattle.claim_laws.specs.declared.published.Seen.TheVariants.{Gone}
use Rattle.claim_laws.specs.Logs.{replay}
use Rattle.claim_laws.specs.World.{Event, Out, Slot, Standing, World, after, happened, is_kept, is_present, may_happen, out_of, outcome}
use Rattle.claim_laws.specs.World.{outcome_at, put_slot, same_bool, slots_with, standing_named, standings, without}
use Rattle.claim_laws.proofs.Once.{after_is}
use Rattle.claim_laws.proofs.Push.{replay_push, same_bool_same}
use Rattle.claim_laws.proofs.Still.{part_at, parts_all}
use Rattle.claim_replay.specs.declared.standing.Standing.{Standing as Known}
use Rattle.claim_replay.specs.declared.world.Out.{Out as OutRow}
use Rattle.claim_replay.specs.declared.world.Slot.{Slot as SlotRow}
use Rattle.claim_replay.specs.declared.world.World.{World as WorldRow}
use Rattle.claim_replay.specs.Values.{AreKnown, is_of_rows, out_value, outcome_by, row_names, slot_value, world_value}
use Rattle.claim_replay.proofs.FirstPassing.{any_map, find_by_place}

-- an event that may not happen changes nothing
pub after_not : (world : World) (event : Event) → may_happen world event ≡ false → world ≡ after world event
after_not world event may = ap (λ b. cond b (happened world event) world) (sym may)

-- ---- the claim of a number

pub outstanding_at : (out : List OutRow) (number place : ℕ) (claim : OutRow) →
    slice_get (map out_value out) place ≡ out_of (map out_value out) number → place < length out → claim ≡ get_or out place claim →
    out_of (map out_value out) number ≡ Some (out_value claim)
outstanding_at out number place claim first lt is =
    sym first ∙ at_map out_value out place ∙ ap (option_map out_value) (slice_get-get_or out place claim lt ∙ ap (λ c. Some c) (sym is))

pub is_outstanding : (out : List OutRow) (number place : ℕ) → slice_get (map out_value out) place ≡ out_of (map out_value out) number →
    place < length out →
    is_some (out_of (map out_value out) number) ≡ true
is_outstanding [] number place first lt = absurd (omega (arith, lt))
is_outstanding (one ∷ out) number place first lt =
    ap is_some (sym first ∙ at_map out_value (one ∷ out) place ∙ ap (option_map out_value) (slice_get-get_or (one ∷ out) place one lt))

-- ---- events that happen

pub revised : (world : WorldRow) (later : WorldRow) (revision : ℕ) (program : Program) (rows : List Row) →
    program_test.0 program world.program.value ≡ false → (revision == world.revision + 1) ≡ true →
    map (component_value (flows_of program)) rows ≡ program_components program → later.revision ≡ revision → later.program.value ≡ program →
    map slot_value later.slots ≡ filter (is_of_rows program rows) (map slot_value world.slots) →
    map out_value later.out ≡ map out_value world.out → later.made ≡ world.made →
    world_value later ≡ after (world_value world) (Event.Revise revision program)
revised world later revision program rows other next components is_revision is_program slots out made =
    (λ i. record {
      revision = is_revision i;
      program = is_program i;
      slots = (slots ∙ filter_agree (is_of_rows program rows) (is_present program) same (map slot_value world.slots)) i;
      out = out i;
      made = made i;
    }) ∙
    sym (after_is (world_value world) (Event.Revise revision program) (rw (other, next) refl))
  where
    same : (slot : Slot) → is_of_rows program rows slot ≡ is_present program slot
    same slot =
        sym (any_map (λ (part : Component). same_names (names_of part.flows) slot.members) (component_value (flows_of program)) rows) ∙
        ap (list_any (λ (part : Component). same_names (names_of part.flows) slot.members)) components

pub given_back : (world : WorldRow) (later : WorldRow) (number : ℕ) → is_some (out_of (map out_value world.out) number) ≡ true →
    later.revision ≡ world.revision → later.program.value ≡ world.program.value →
    map slot_value later.slots ≡ map slot_value world.slots → map out_value later.out ≡ without (map out_value world.out) number →
    later.made ≡ world.made →
    world_value later ≡ after (world_value world) (Event.GiveBack number)
given_back world later number may revision program slots out made =
    (λ i. record { revision = revision i; program = program i; slots = slots i; out = out i; made = made i })
    ∙ sym (after_is (world_value world) (Event.GiveBack number) may)

pub not_published : (world : WorldRow) (number : ℕ) (answer : Answer) (kept : Bool) (claim : Out) →
    out_of (map out_value world.out) number ≡ Some claim → same_bool kept (is_kept (world_value world) claim) ≡ false →
    world_value world ≡ after (world_value world) (Event.Publish number answer kept)
not_published world number answer kept claim at differs = after_not (world_value world) (Event.Publish number answer kept) (rw at differs)

pub published : (world : WorldRow) (later : WorldRow) (number : ℕ) (answer : Answer) (kept : Bool) (claim : Out) →
    out_of (map out_value world.out) number ≡ Some claim →
    kept ≡ is_kept (world_value world) claim → later.revision ≡ world.revision → later.program.value ≡ world.program.value →
    map slot_value later.slots ≡ slots_with (map slot_value world.slots) kept answer (Some claim) →
    map out_value later.out ≡ without (map out_value world.out) number → later.made ≡ world.made →
    world_value later ≡ after (world_value world) (Event.Publish number answer kept)
published world later number answer kept claim at same revision program slots out made =
    (λ i. record {
      revision = revision i;
      program = program i;
      slots = (slots ∙ ap (slots_with (map slot_value world.slots) kept answer) (sym at)) i;
      out = out i;
      made = made i;
    }) ∙
    sym (after_is (world_value world) (Event.Publish number answer kept)
    (rw at (same_bool_same kept (is_kept (world_value world) claim) same)))

pub other_bool : (a b : Bool) → not (beq a b) ≡ true → same_bool a b ≡ false
other_bool true true h = cc
other_bool true false h = refl
other_bool false true h = refl
other_bool false false h = cc

pub one_bool : (a b : Bool) → not (beq a b) ≡ false → a ≡ b
one_bool true true h = refl
one_bool true false h = cc
one_bool false true h = cc
one_bool false false h = refl

-- ---- a slot put in its place

pub put_before : (slot : SlotRow) (slots : List SlotRow) (place : ℕ) (one : SlotRow) → place < length slots → one ≡ get_or slots place one →
    ((k : ℕ) (d : SlotRow) → k < place → (get_or slots k d).claim ≤ slot.claim) →
    slot.claim < one.claim → map slot_value (insert slots place slot) ≡ put_slot (slot_value slot) (map slot_value slots)
put_before slot [] place one lt is before less = absurd (omega (arith, lt))
put_before slot (first ∷ slots) zero one lt is before less =
    let earlier : nat_lt slot.claim first.claim ≡ true =
    (Decides-ltb slot.claim first.claim).1 (subst (λ (s : SlotRow). slot.claim < s.claim) is less) in
    rw earlier refl
put_before slot (first ∷ slots) (suc place) one lt is before less =
    let later : nat_lt slot.claim first.claim ≡ false = not_less first.claim slot.claim (before 0 first (omega arith)) in
    rw later (ap (λ l. slot_value first ∷ l)
    (put_before slot slots place one (omega (arith, lt)) is (λ k d low. before (suc k) d (omega (arith, low))) less))
  where
    not_less : (a b : ℕ) → a ≤ b → nat_lt b a ≡ false
    not_less a b le = grind (arith, le)

pub put_last : (slot : SlotRow) (slots : List SlotRow) →
    ((k : ℕ) (d : SlotRow) → k < length slots → (get_or slots k d).claim ≤ slot.claim) →
    map slot_value (insert slots (length slots) slot) ≡ put_slot (slot_value slot) (map slot_value slots)
put_last slot [] before = refl
put_last slot (first ∷ slots) before =
    let later : nat_lt slot.claim first.claim ≡ false = not_less first.claim slot.claim (before 0 first (omega arith)) in
    rw later (ap (λ l. slot_value first ∷ l) (put_last slot slots (λ k d low. before (suc k) d (omega (arith, low)))))
  where
    not_less : (a b : ℕ) → a ≤ b → nat_lt b a ≡ false
    not_less a b le = grind (arith, le)

-- ---- what becomes of an answer

module _ (world : WorldRow) (rows : List Row)
    (components : map (component_value (flows_of world.program.value)) rows ≡ program_components world.program.value) where
  -- the component of these members stands where its row does
  standing_is : (members : List (List ℕ)) →
      standing_named (world_value world) members
      ≡ at_place (standings (world_value world)) (position (λ row. same_names (row_names world.program.value row) members) rows)
  standing_is members =
      find_by_place (λ (standing : Standing). same_names (names_of standing.part.flows) members) (standings (world_value world)) ∙
      ap (at_place (standings (world_value world)))
      (sym (position_map (λ (part : Component). same_names (names_of part.flows) members) (λ (standing : Standing). standing.part)
      (standings (world_value world))) ∙
      ap (position (λ (part : Component). same_names (names_of part.flows) members)) (parts_all (world_value world) ∙ sym components) ∙
      position_map (λ (part : Component). same_names (names_of part.flows) members) (component_value (flows_of world.program.value)) rows)

  pub is_gone : (claim : OutRow) (members : List (List ℕ)) → members ≡ names_of claim.key.value.procs →
      None ≡ position (λ row. same_names (row_names world.program.value row) members) rows →
      Stale (Gone world.revision) ≡ outcome (world_value world) (out_value claim)
  is_gone claim members named none =
      sym (ap (outcome_at world.revision (map slot_value world.slots) (out_value claim))
      (ap (standing_named (world_value world)) (sym named) ∙ standing_is members
      ∙ ap (at_place (standings (world_value world))) (sym none)))

  pub outcome_known : (claim : OutRow) (members : List (List ℕ)) (known : List Known) (place : ℕ) (row : Row) (one : Known) →
      members ≡ names_of claim.key.value.procs →
      Some place ≡ position (λ r. same_names (row_names world.program.value r) members) rows → AreKnown (world_value world) known →
      length known ≡ length (standings (world_value world)) →
      place < length rows → row ≡ get_or rows place row → place < length known → one ≡ get_or known place one →
      outcome_by world claim row one ≡ outcome (world_value world) (out_value claim)
  outcome_known claim members known place row one named at are few row_lt row_is lt is =
      let d : Standing = record { part = record { flows = []; outer = [] }; due = None; settled = None } in
      let standing : Standing = get_or (standings (world_value world)) place d in
      let there : slice_get (standings (world_value world)) place ≡ Some standing =
      slice_get-get_or (standings (world_value world)) place d (subst (λ n. place < n) few lt) in
      let own : slice_get known place ≡ Some one = slice_get-get_or known place one lt ∙ ap (λ k. Some k) (sym is) in
      let due : one.due ≡ standing.due = are.due place one standing own there in
      let settled : at_place (map slot_value world.slots) one.settled ≡ standing.settled = are.settled place one standing own there in
      let part : component_value (flows_of world.program.value) row ≡ standing.part =
      some_same (sym
      (ap (option_map (component_value (flows_of world.program.value)))
      (slice_get-get_or rows place row row_lt ∙ ap (λ r. Some r) (sym row_is)))
      ∙ sym (at_map (component_value (flows_of world.program.value)) rows place) ∙
      ap (λ l. slice_get l place) components ∙ part_at (world_value world) place standing there) in
      let same : Some
      (record {
        part = component_value (flows_of world.program.value) row;
        due = one.due;
        settled = at_place (map slot_value world.slots) one.settled;
      })
      ≡ standing_named (world_value world) (names_of claim.key.value.procs) =
      (λ i. Some (record { part = part i; due = due i; settled = settled i })) ∙ sym there
      ∙ ap (at_place (standings (world_value world))) at ∙ sym (standing_is members) ∙ ap (standing_named (world_value world)) named in
      ap (outcome_at world.revision (map slot_value world.slots) (out_value claim)) same

-- ---- a log

pub one_more : (log : List Told) (i : ℕ) (event : Told) → i < length log → event ≡ get_or log i event →
    replay (events_of (take (i + 1) log)) ≡ after (replay (events_of (take i log))) (event_of event)
one_more log i event lt is =
    ap replay (ap events_of (take_more log i event lt ∙ ap (λ e. take i log ++ e ∷ []) (sym is))
    ∙ map-append event_of (take i log) (event ∷ [])) ∙
    replay_push (events_of (take i log)) (event_of event)
