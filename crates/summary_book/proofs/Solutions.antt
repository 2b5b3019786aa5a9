-- What is collected is right for its keys.
use Rattle.std.proofs.Common.{◌≡◌, ℕ, All, List, [], ◌∷◌, length, map, Bool, Some, None, Option, refl, sym, ◌∙◌, subst}
use Rattle.std.specs.List.{cons_option, filter, filter_map, range_with_len}
use Rattle.std.proofs.lemmas.List.Elements.{All-cons, All-head, All-map, All-nil, All-tail}
use Rattle.shape_data.specs.declared.answer.Answer.{Answer}
use Rattle.shape_data.specs.declared.answer.Kept.{Kept}
use Rattle.shape_data.specs.declared.answer.Key.{Key}
use Rattle.component_keys.specs.Components.{same_names}
use Rattle.component_keys.specs.Keys.{names_of}
use Rattle.component_keys.proofs.Basics.{found}
use Rattle.claim_core.specs.Views.{Solution, solution_of}
use Rattle.claim_laws.specs.Logs.{IsLegal, replay, settled_at}
use Rattle.claim_laws.specs.World.{Event, Slot, World, slot_of, standings}
use Rattle.claim_laws.proofs.Core.{slots_solve}
use Rattle.claim_laws.proofs.Defined.{standings_as_defined}
use Rattle.claim_laws.proofs.Invariant.{all_at}
use Rattle.claim_laws.proofs.Steps.{settled_slot}
use Rattle.summary_book.specs.Next.{slots_by}
use Rattle.summary_book.specs.Views.{slot_solution}
use Rattle.summary_book.proofs.Standings.{settled_stands}

-- the slot of a settled component is one of the slots
settled_one : (P : Slot → Type 0) (world : World) → All P world.slots → (place : ℕ) (slot : Slot) → settled_at world place ≡ Some slot →
    P slot
settled_one P world all place slot e =
    let own = settled_stands world place slot e in
    let members = names_of own.0.part.flows in
    let is =
    settled_slot (slot_of world.slots members) own.0.due slot (sym (standings_as_defined world place own.0 own.1).settled ∙ own.2) in
    let there = found (λ (one : Slot). same_names one.members members) world.slots slot is in
    all_at P world.slots there.1.0 slot all there.1.1

chosen_each : {X Y : Type 0} (P : Y → Type 0) (h : X → Option Y) (xs : List X) → ((x : X) (y : Y) → h x ≡ Some y → P y) →
    All P (filter_map h xs)
chosen_each P h [] each = All-nil P
chosen_each {X = X} {Y = Y} P h (x ∷ xs) each = by_value (h x) refl (chosen_each P h xs each)
  where
    by_value : (o : Option Y) → h x ≡ o → All P (filter_map h xs) → All P (cons_option o (filter_map h xs))
    by_value None e all = all
    by_value (Some y) e all = All-cons P y (filter_map h xs) (each x y e) all

unmapped : {X Y : Type 0} (Q : X → Type 0) (f : Y → X) (ys : List Y) → All Q (map f ys) → All (λ y. Q (f y)) ys
unmapped Q f [] all = All-nil (λ y. Q (f y))
unmapped Q f (y ∷ ys) all =
    All-cons (λ z. Q (f z)) y ys (All-head Q (f y) (map f ys) all) (unmapped Q f ys (All-tail Q (f y) (map f ys) all))

pub collected_solved : (solves : Key → Answer → Type 0) (log : List Event) → IsLegal solves log → (aim : ℕ → Bool) (kept : List Kept) →
    map solution_of kept ≡ map slot_solution (slots_by (replay log) aim) →
    All (λ (one : Kept). solves one.key.value one.answer.value) kept
collected_solved solves log legal aim kept same =
    let IsRight : Solution → Type 0 = λ one. solves one.key one.answer in
    let IsRightSlot : Slot → Type 0 = λ slot. solves slot.key slot.answer in
    let places = filter aim (range_with_len 0 (length (standings (replay log)))) in
    let slots =
    chosen_each IsRightSlot (settled_at (replay log)) places (settled_one IsRightSlot (replay log) (slots_solve solves log legal)) in
    unmapped IsRight solution_of kept (subst (All IsRight) (sym same) (All-map IsRight slot_solution (slots_by (replay log) aim) slots))
