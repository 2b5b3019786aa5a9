-- Lists that are made of numbers in a row; and that none is unsettled says that each is settled.
use Rattle.std.proofs.Common.{◌≡◌, ℕ, zero, suc, ◌+◌, ◌<◌, Bool, true, false, cond, List, [], ◌∷◌, length, map, slice_get, is_some}
use Rattle.std.proofs.Common.{Some, None, Option, refl, sym, ap, ◌∙◌, filter, filter_map, option_map, arith}
use Rattle.std.specs.List.{cons_option, range_with_len}
use Rattle.std.proofs.lemmas.Bool.{lt-ltb, ltb-true}
use Rattle.component_keys.specs.Keys.{program_components}
use Rattle.claim_laws.specs.World.{World, Slot}
use Rattle.claim_laws.specs.Logs.{settled_at}
use Rattle.summary_book.specs.declared.aims.Aim.TheVariants.{All}
use Rattle.summary_book.specs.Aims.{aimed}
use Rattle.summary_book.specs.Next.{IsSettled}
use Rattle.summary_book.proofs.Standings.{settled_of, stands_at}
use Rattle.bottom_up.proofs.ListPlaces.{within_at}
use Rattle.settled_laws.specs.Laws.{AreSettled, SettledIsAll}

-- ---- lists

-- all that stands in a list from a place on
pub taken_from : {X : Type 0} (at : ℕ → Option X) (xs : List X) (from : ℕ) → ((k : ℕ) → k < length xs → at (from + k) ≡ slice_get xs k) →
    filter_map at (range_with_len from (length xs)) ≡ xs
taken_from at [] from same = refl
taken_from at (x ∷ xs) from same =
    let here : from + 0 ≡ from = omega arith in
    ap (λ o. cons_option o (filter_map at (range_with_len (from + 1) (length xs)))) (ap at (sym here) ∙ same 0 (omega arith)) ∙
    ap (λ l. x ∷ l) (taken_from at xs (from + 1)
    (λ k lt. let next : (from + 1) + k ≡ from + suc k = omega arith in ap at next ∙ same (suc k) (omega (arith, lt))))

-- all numbers of a row pass
pub all_pass : (p : ℕ → Bool) (from count : ℕ) → ((k : ℕ) → k < count → p (from + k) ≡ true) →
    filter p (range_with_len from count) ≡ range_with_len from count
all_pass p from zero passes = refl
all_pass p from (suc count) passes =
    let here : from + 0 ≡ from = omega arith in
    ap (λ b. cond b (from ∷ filter p (range_with_len (from + 1) count)) (filter p (range_with_len (from + 1) count)))
    (ap p (sym here) ∙ passes 0 (omega arith)) ∙
    ap (λ l. from ∷ l) (all_pass p (from + 1) count
    (λ k lt. let next : (from + 1) + k ≡ from + suc k = omega arith in ap p next ∙ passes (suc k) (omega (arith, lt))))

-- what is made of each that is given
pub given_mapped : {X Y Z : Type 0} (f : Y → Z) (at : X → Option Y) (xs : List X) →
    map f (filter_map at xs) ≡ filter_map (λ x. option_map f (at x)) xs
given_mapped f at [] = refl
given_mapped {X = X} {Y = Y} f at (x ∷ xs) = by_option (at x) (given_mapped f at xs)
  where
    by_option : (o : Option Y) → map f (filter_map at xs) ≡ filter_map (λ z. option_map f (at z)) xs →
        map f (cons_option o (filter_map at xs)) ≡ cons_option (option_map f o) (filter_map (λ z. option_map f (at z)) xs)
    by_option None again = again
    by_option (Some y) again = ap (λ l. f y ∷ l) again

-- ---- settled

each_settled : (world : World) → IsSettled world (aimed world.program All) → AreSettled world
each_settled world settled component lt = by_slot (settled_at world component) refl
  where
    by_slot : (o : Option Slot) → settled_at world component ≡ o → is_some o ≡ true
    by_slot None e =
        let there = within_at (program_components world.program) component lt in
        let own = stands_at world component there.0 there.1 in
        absurd (settled component (lt-ltb _ _ lt)
        (record { standing = own.standing; at = own.at; settled = sym (settled_of world component own.standing own.at) ∙ e }))
    by_slot (Some slot) e = refl

none_unsettled : (world : World) → AreSettled world → IsSettled world (aimed world.program All)
none_unsettled world each component reached unsettled =
    let some : is_some (settled_at world component) ≡ true = each component (ltb-true _ _ reached) in
    let none = ap is_some (settled_of world component unsettled.standing unsettled.at ∙ unsettled.settled) in
    let never : true ≡ false = sym some ∙ none in
    cc

pub settled_is_all : SettledIsAll
settled_is_all world = (each_settled world, none_unsettled world)
