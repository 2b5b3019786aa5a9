-- The keys and answers of settled components, one after the other.
use Rattle.std.proofs.Common.{◌≡◌, ℕ, zero, suc, ◌+◌, Bool, true, false, cond, List, [], ◌∷◌, ◌++◌, map, slice_get, slice_index_or, is_some}
use Rattle.std.proofs.Common.{Some, None, Option, refl, sym, ap, ◌∙◌, subst, arith}
use Rattle.std.specs.List.{cons_option, filter, filter_map, range_with_len}
use Rattle.std.proofs.lemmas.List.{map_push}
use Rattle.call_components.specs.Reaching.{marked}
use Rattle.component_keys.proofs.Basics.{some_same}
use Rattle.composed_keys.specs.declared.rows.Component.{Component as ComponentRow}
use Rattle.claim_core.specs.declared.event.Event.{Event as Told}
use Rattle.claim_core.specs.Told.{events_of}
use Rattle.claim_laws.specs.Logs.{replay, settled_at}
use Rattle.claim_laws.specs.World.{Slot, World, slot_of}
use Rattle.claim_laws.proofs.Steps.{settled_slot}
use Rattle.shape_data.specs.declared.answer.Kept.{Kept}
use Rattle.summary_book.specs.declared.rows.Parts.{Parts}
use Rattle.summary_book.specs.declared.rows.SlotRow.{SlotRow}
use Rattle.summary_book.specs.Next.{IsSettled}
use Rattle.summary_book.specs.Places.{answer_at, key_at}
use Rattle.summary_book.specs.Rows.{IsSight}
use Rattle.summary_book.specs.Views.{slot_solution}
use Rattle.claim_core.specs.Views.{solution_of}
use Rattle.summary_book.proofs.Due.{part, settled_is, slot_at, stands, unsettled_empty}
use Rattle.summary_book.proofs.Standings.{settled_of}
use Rattle.component_keys.specs.Keys.{names_of}

-- ---- lists

range_push : (from count : ℕ) → range_with_len from (count + 1) ≡ range_with_len from count ++ (from + count) ∷ []
range_push from count = let more : count + 1 ≡ suc count = omega arith in ap (λ n. range_with_len from n) more ∙ behind from count
  where
    behind : (start n : ℕ) → range_with_len start (suc n) ≡ range_with_len start n ++ (start + n) ∷ []
    behind start zero = let same : start ≡ start + 0 = omega arith in ap (λ k. k ∷ []) same
    behind start (suc n) = let same : (start + 1) + n
        ≡ start + suc n = omega arith in ap (λ l. start ∷ l) (behind (start + 1) n ∙ ap (λ k. range_with_len (start + 1) n ++ k ∷ []) same)

filter_push : {X : Type 0} (p : X → Bool) (xs : List X) (x : X) → filter p (xs ++ x ∷ []) ≡ filter p xs ++ cond (p x) (x ∷ []) []
filter_push {X = X} p [] x = by_test (p x)
  where
    by_test : (b : Bool) → cond b (x ∷ []) [] ≡ [] ++ cond b (x ∷ []) []
    by_test true = refl
    by_test false = refl
filter_push {X = X} p (first ∷ xs) x = by_test (p first) (filter_push p xs x)
  where
    by_test : (b : Bool) → filter p (xs ++ x ∷ []) ≡ filter p xs ++ cond (p x) (x ∷ []) [] →
        cond b (first ∷ filter p (xs ++ x ∷ [])) (filter p (xs ++ x ∷ []))
        ≡ cond b (first ∷ filter p xs) (filter p xs) ++ cond (p x) (x ∷ []) []
    by_test true again = ap (λ l. first ∷ l) again
    by_test false again = again

filter_map_push : {X Y : Type 0} (f : X → Option Y) (xs : List X) (x : X) (y : Y) → f x ≡ Some y →
    filter_map f (xs ++ x ∷ []) ≡ filter_map f xs ++ y ∷ []
filter_map_push f [] x y e = ap (λ o. cons_option o []) e
filter_map_push {Y = Y} f (first ∷ xs) x y e = by_option (f first) (filter_map_push f xs x y e)
  where
    by_option : (o : Option Y) → filter_map f (xs ++ x ∷ []) ≡ filter_map f xs ++ y ∷ [] →
        cons_option o (filter_map f (xs ++ x ∷ [])) ≡ cons_option o (filter_map f xs) ++ y ∷ []
    by_option None again = again
    by_option (Some z) again = ap (λ l. z ∷ l) again

pub filter_range_out : (p : ℕ → Bool) (count : ℕ) → p count ≡ false →
    filter p (range_with_len 0 (count + 1)) ≡ filter p (range_with_len 0 count)
filter_range_out p count out =
    let here : p (0 + count) ≡ false = subst (λ n. p n ≡ false) (omega arith) out in
    ap (filter p) (range_push 0 count) ∙ filter_push p (range_with_len 0 count) (0 + count)
    ∙ ap (λ b. filter p (range_with_len 0 count) ++ cond b ((0 + count) ∷ []) []) here ∙ nothing (filter p (range_with_len 0 count))
  where
    nothing : (xs : List ℕ) → xs ++ [] ≡ xs
    nothing [] = refl
    nothing (x ∷ xs) = ap (λ l. x ∷ l) (nothing xs)

pub filter_range_in : (p : ℕ → Bool) (count : ℕ) → p count ≡ true →
    filter p (range_with_len 0 (count + 1)) ≡ filter p (range_with_len 0 count) ++ count ∷ []
filter_range_in p count in_it =
    let here : p (0 + count) ≡ true = subst (λ n. p n ≡ true) (omega arith) in_it in
    let same : 0 + count ≡ count = omega arith in
    ap (filter p) (range_push 0 count) ∙ filter_push p (range_with_len 0 count) (0 + count)
    ∙ ap (λ b. filter p (range_with_len 0 count) ++ cond b ((0 + count) ∷ []) []) here ∙
    ap (λ n. filter p (range_with_len 0 count) ++ n ∷ []) same

-- ---- a settled component

module _ (log : List Told) (parts : Parts) (slots : List (Option SlotRow)) (sight : IsSight log parts slots) (place : ℕ)
    (row : ComponentRow) (at_row : slice_get parts.components.items place ≡ Some row) where
  abbrev world : World
  world = replay (events_of log)

  -- one that has no slot is not settled
  pub no_slot : (aim : List Bool) → IsSettled world (marked aim) → marked aim place ≡ true → slice_index_or slots place None ≡ None → ⊥
  no_slot aim all reached none =
      let own = stands log parts slots sight place row at_row in
      all place reached
      (record {
        standing = own.standing;
        at = own.at;
        settled = sym (settled_of world place own.standing own.at) ∙ unsettled_empty log parts slots sight place row at_row none;
      })

  pub has_key : (srow : SlotRow) → slice_index_or slots place None ≡ Some srow → is_some (key_at log srow.claimed) ≡ true
  has_key srow is = ap is_some (slot_at log parts slots sight place row at_row srow is).key_is

  pub has_answer : (srow : SlotRow) → slice_index_or slots place None ≡ Some srow → is_some (answer_at log srow.published) ≡ true
  has_answer srow is = ap is_some (slot_at log parts slots sight place row at_row srow is).answer_is

  -- its slot's key and answer
  pub kept_at : (aim : List Bool) → IsSettled world (marked aim) → marked aim place ≡ true → (srow : SlotRow) →
      slice_index_or slots place None ≡ Some srow → (kept : Kept) → key_at log srow.claimed ≡ Some kept.key.value →
      answer_at log srow.published ≡ Some kept.answer.value →
      (slot : Slot) × (settled_at world place ≡ Some slot) × (solution_of kept ≡ slot_solution slot)
  kept_at aim all reached srow is kept key answer = by_settled (stands log parts slots sight place row at_row).standing.settled refl
    where
      by_settled : (o : Option Slot) → (stands log parts slots sight place row at_row).standing.settled ≡ o →
          (slot : Slot) × (settled_at world place ≡ Some slot) × (solution_of kept ≡ slot_solution slot)
      by_settled None e =
          absurd (all place reached
          (record {
            standing = (stands log parts slots sight place row at_row).standing;
            at = (stands log parts slots sight place row at_row).at;
            settled = e;
          }))
      by_settled (Some slot) e =
          let mine = slot_at log parts slots sight place row at_row srow is in
          let here : slot_of world.slots (names_of (part log parts slots sight place row at_row).flows) ≡ Some slot =
          settled_slot (slot_of world.slots (names_of (part log parts slots sight place row at_row).flows))
          (stands log parts slots sight place row at_row).standing.due slot
          (sym (settled_is log parts slots sight place row at_row) ∙ e) in
          let same = some_same (sym mine.slot ∙ here) in
          let keys : kept.key.value ≡ slot.key = some_same (sym key ∙ mine.key_is) ∙ ap (λ (s : Slot). s.key) same in
          let answers : kept.answer.value ≡ slot.answer = some_same (sym answer ∙ mine.answer_is) ∙ ap (λ (s : Slot). s.answer) same in (
            slot,
            settled_of world place (stands log parts slots sight place row at_row).standing
                (stands log parts slots sight place row at_row).at ∙ e,
            λ i. record { key = keys i; answer = answers i },
          )

-- one more is collected
pub collected_more : (world : World) (aim : ℕ → Bool) (all : List Kept) (kept : Kept) (place : ℕ) (slot : Slot) → aim place ≡ true →
    settled_at world place ≡ Some slot → solution_of kept ≡ slot_solution slot →
    map solution_of all ≡ map slot_solution (filter_map (settled_at world) (filter aim (range_with_len 0 place))) →
    map solution_of (all ++ kept ∷ []) ≡ map slot_solution (filter_map (settled_at world) (filter aim (range_with_len 0 (place + 1))))
collected_more world aim all kept place slot reached settled same before =
    map_push solution_of all kept ∙ ap (λ l. l ++ solution_of kept ∷ []) before ∙
    ap (λ s. map slot_solution (filter_map (settled_at world) (filter aim (range_with_len 0 place))) ++ s ∷ []) same ∙
    sym (map_push slot_solution (filter_map (settled_at world) (filter aim (range_with_len 0 place))) slot) ∙
    ap (map slot_solution) (sym (filter_map_push (settled_at world) (filter aim (range_with_len 0 place)) place slot settled)) ∙
    ap (λ l. map slot_solution (filter_map (settled_at world) l)) (sym (filter_range_in aim place reached))
