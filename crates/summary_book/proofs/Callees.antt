-- What is known of the callees of a component, by its row.
use Rattle.std.proofs.Common.{◌≡◌, ℕ, zero, suc, ◌<◌, Bool, true, false, ◌&&◌, List, [], ◌∷◌, map, length, slice_get, slice_index_or, Some}
use Rattle.std.proofs.Common.{None, Option, refl, sym, ap, ◌∙◌, subst, All, option_map}
use Rattle.std.specs.List.{filter_map, cons_option, list_all}
use Rattle.std.proofs.lemmas.List.{length-map}
use Rattle.std.proofs.lemmas.List.Elements.{All-head, All-tail}
use Rattle.shape_data.specs.declared.answer.Callee.{Callee}
use Rattle.shape_data.specs.declared.program.Flow.{Flow}
use Rattle.shape_data.specs.declared.program.Proc.{Proc}
use Rattle.shape_data.specs.declared.program.Program.{Program}
use Rattle.sym_parts.proofs.ShapesLemmas.StepsStacks.{within-some}
use Rattle.component_keys.specs.Keys.{Component, Outer, flows_of, names_of}
use Rattle.component_keys.proofs.Basics.{both_true, not_none, some_same}
use Rattle.composed_keys.specs.declared.rows.Outer.{Outer as OuterRow}
use Rattle.composed_keys.specs.Callees.{known_as}
use Rattle.composed_keys.specs.Rows.{outer_value}
use Rattle.claim_core.specs.declared.event.Event.{Event as Told}
use Rattle.claim_laws.specs.World.{World, Slot, both, given_by, given, slot_of, standings}
use Rattle.claim_laws.specs.Logs.{settled_at}
use Rattle.claim_laws.proofs.Still.{standings_known, part_at}
use Rattle.claim_laws.proofs.Steps.{settled_slot}
use Rattle.summary_book.specs.declared.rows.SlotRow.{SlotRow}
use Rattle.summary_book.specs.Rows.{AreSlots, IsSlot, known_by, known_row, row_answer}
use Rattle.summary_book.proofs.Standings.{settled_stands}

-- a settled component's row has its slot's answer
pub row_of : (world : World) (log : List Told) (slots : List (Option SlotRow)) → AreSlots log world.slots world.program slots →
    (place : ℕ) (slot : Slot) → settled_at world place ≡ Some slot →
    row_answer log (slice_index_or slots place None) ≡ Some slot.answer
row_of world log slots are place slot e =
    let stands = settled_stands world place slot e in
    let own : slot_of world.slots (names_of stands.0.part.flows) ≡ Some slot =
    settled_slot (slot_of world.slots (names_of stands.0.part.flows)) stands.0.due slot
    (sym (standings_known world place stands.0 stands.1).settled ∙ stands.2) in
    by_row stands.0.part own (slice_index_or slots place None) (are.each place stands.0.part (part_at world place stands.0 stands.1))
  where
    by_row : (part : Component) → slot_of world.slots (names_of part.flows) ≡ Some slot → (o : Option SlotRow) →
        IsSlot log world.slots world.program part o → row_answer log o ≡ Some slot.answer
    by_row part own None is = not_none (sym is ∙ own)
    by_row part own (Some row) is = is.answer_is ∙ ap (λ (s : Slot). Some s.answer) (some_same (sym is.slot ∙ own))

-- ---- the callees of a row

-- the values of rows, those outside being procedures of the program
abbrev pub AreProcs : Program → List OuterRow → Type 0
AreProcs program rows = All (λ (one : OuterRow). one.number < length program.procs) rows

flow_there : (program : Program) (number : ℕ) → number < length program.procs →
    (flow : Flow) × (slice_get (flows_of program) number ≡ Some flow)
flow_there program number lt =
    within-some (flows_of program) number (subst (λ n. number < n) (sym (length-map program.procs (λ (proc : Proc). proc.flow))) lt)

-- the value of a row
pub outer_there : (program : Program) (row : OuterRow) → row.number < length program.procs →
    (flow : Flow) × (slice_get (flows_of program) row.number ≡ Some flow)
    × (outer_value (flows_of program) row ≡ Some (record { name = flow.name; params = flow.params; component = row.component }))
outer_there program row lt =
    let there = flow_there program row.number lt in (
      there.0,
      there.1,
      ap
          (option_map (λ (flow : Flow). record { name = flow.name; params = flow.params; component = row.component })) there.1,
    )

-- where all are settled they are given, as their rows tell
module _ (world : World) (program : Program) (log : List Told) (slots : List (Option SlotRow))
    (are : AreSlots log world.slots world.program slots) where
  pub given_all : (rows : List OuterRow) → AreProcs program rows →
      ((k : ℕ) (row : OuterRow) → slice_get rows k ≡ Some row → (slot : Slot) × (settled_at world row.component ≡ Some slot)) →
      (callees : List Callee) × (given (standings world) (filter_map (outer_value (flows_of program)) rows) ≡ Some callees)
      × (map (known_row program log slots) rows ≡ map (λ (callee : Callee). Some callee) callees)
  given_all [] within settled = ([], refl, refl)
  given_all (row ∷ rows) within settled =
      let there = outer_there program row (All-head (λ (one : OuterRow). one.number < length program.procs) row rows within) in
      let rest = given_all rows (All-tail (λ (one : OuterRow). one.number < length program.procs) row rows within) (λ k. settled (suc k)) in
      let slot = settled 0 row refl in
      let first : Callee = known_as there.0 slot.0.answer in
      let known : known_row program log slots row
      ≡ Some first = ap (λ o. known_by o (row_answer log (slice_index_or slots row.component None))) there.1
      ∙ ap (known_by (Some there.0)) (row_of world log slots are row.component slot.0 slot.1) in (
        first ∷ rest.0,
        ap (λ o. given (standings world) (cons_option o (filter_map (outer_value (flows_of program)) rows))) there.2 ∙
            ap (λ o. both (given_by (record { name = there.0.name; params = there.0.params; component = row.component }) o)
            (given (standings world) (filter_map (outer_value (flows_of program)) rows))) slot.1 ∙
            ap (both (Some first)) rest.1,
        ap (λ o. o ∷ map (known_row program log slots) rows) known ∙ ap (λ l. Some first ∷ l) rest.2,
      )

  -- where one is not settled they are not given
  pub given_none : (rows : List OuterRow) → AreProcs program rows → (k : ℕ) (row : OuterRow) → slice_get rows k ≡ Some row →
      settled_at world row.component ≡ None →
      given (standings world) (filter_map (outer_value (flows_of program)) rows) ≡ None
  given_none [] within k row at none = not_none at
  given_none (first ∷ rows) within zero row at none =
      let there = outer_there program first (All-head (λ (one : OuterRow). one.number < length program.procs) first rows within) in
      ap (λ o. given (standings world) (cons_option o (filter_map (outer_value (flows_of program)) rows))) there.2 ∙
      ap (λ o. both (given_by (record { name = there.0.name; params = there.0.params; component = first.component }) o)
      (given (standings world) (filter_map (outer_value (flows_of program)) rows)))
      (ap (λ (one : OuterRow). settled_at world one.component) (some_same at) ∙ none)
  given_none (first ∷ rows) within (suc k) row at none =
      let there = outer_there program first (All-head (λ (one : OuterRow). one.number < length program.procs) first rows within) in
      ap (λ o. given (standings world) (cons_option o (filter_map (outer_value (flows_of program)) rows))) there.2 ∙
      ap (both (given_by (record { name = there.0.name; params = there.0.params; component = first.component })
      (settled_at world first.component)))
      (given_none rows (All-tail (λ (one : OuterRow). one.number < length program.procs) first rows within) k row at none) ∙
      both_none (given_by (record { name = there.0.name; params = there.0.params; component = first.component })
      (settled_at world first.component))
    where
      both_none : (o : Option Callee) → both o None ≡ None
      both_none None = refl
      both_none (Some callee) = refl

-- ---- lists of what there is

pub somes_same : {X : Type 0} (xs ys : List X) → map (λ (x : X). Some x) xs ≡ map (λ (y : X). Some y) ys → xs ≡ ys
somes_same [] [] e = refl
somes_same [] (y ∷ ys) e = cc
somes_same (x ∷ xs) [] e = cc
somes_same (x ∷ xs) (y ∷ ys) e =
    let rest : map (λ z. Some z) xs ≡ map (λ z. Some z) ys = cc in
    let first : x ≡ y = cc in
    let others : xs ≡ ys = somes_same xs ys rest in
    cc

pub all_at_place : {X : Type 0} (p : X → Bool) (xs : List X) → list_all p xs ≡ true → (i : ℕ) (x : X) → slice_get xs i ≡ Some x → p x ≡ true
all_at_place p [] e i x at = not_none at
all_at_place p (first ∷ xs) e zero x at = subst (λ y. p y ≡ true) (some_same at) (both_true (p first) (list_all p xs) e).0
all_at_place p (first ∷ xs) e (suc i) x at = all_at_place p xs (both_true (p first) (list_all p xs) e).1 i x at

pub not_all : {X : Type 0} (p : X → Bool) (xs : List X) → list_all p xs ≡ false →
    (i : ℕ) × (x : X) × (slice_get xs i ≡ Some x) × (p x ≡ false)
not_all p [] e = cc
not_all {X = X} p (first ∷ xs) e = by_test (p first) refl e (not_all p xs)
  where
    by_test : (b : Bool) → p first ≡ b → (b && list_all p xs) ≡ false →
        (list_all p xs ≡ false → (i : ℕ) × (x : X) × (slice_get xs i ≡ Some x) × (p x ≡ false)) →
        (i : ℕ) × (x : X) × (slice_get (first ∷ xs) i ≡ Some x) × (p x ≡ false)
    by_test true e f again = let rest = again f in (suc rest.0, rest.1, rest.2, rest.3)
    by_test false e f again = (0, first, refl, e)

-- the value of a row at its place
pub value_at : (program : Program) (rows : List OuterRow) → AreProcs program rows → (k : ℕ) (row : OuterRow) → slice_get rows k ≡ Some row →
    (outer : Outer) × (slice_get (filter_map (outer_value (flows_of program)) rows) k ≡ Some outer) × (outer.component ≡ row.component)
value_at program [] within k row at = not_none at
value_at program (first ∷ rows) within zero row at =
    let there = outer_there program first (All-head (λ (one : OuterRow). one.number < length program.procs) first rows within) in (
      record { name = there.0.name; params = there.0.params; component = first.component },
      ap (λ o. slice_get (cons_option o (filter_map (outer_value (flows_of program)) rows)) 0) there.2,
      ap (λ (one : OuterRow). one.component) (some_same at),
    )
value_at program (first ∷ rows) within (suc k) row at =
    let there = outer_there program first (All-head (λ (one : OuterRow). one.number < length program.procs) first rows within) in
    let rest = value_at program rows (All-tail (λ (one : OuterRow). one.number < length program.procs) first rows within) k row at in
    (rest.0, ap (λ o. slice_get (cons_option o (filter_map (outer_value (flows_of program)) rows)) (suc k)) there.2 ∙ rest.1, rest.2)
