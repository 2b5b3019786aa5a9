-- The test of a graph of calls.
use Rattle.std.proofs.Common.{◌≡◌, ◌≢◌, ℕ, zero, suc, ◌<◌, true, List, [], ◌∷◌, length, slice_get, get_or, Some, None, Option, refl, sym}
use Rattle.std.proofs.Common.{ap, ◌∙◌, subst, ⊎_elim, arith, All, AllPairs}
use Rattle.std.specs.Global.{Vec}
use Rattle.std.proofs.lemmas.Bool.{cases_lt}
use Rattle.std.proofs.lemmas.List.{length-map, get_or_default}
use Rattle.std.proofs.lemmas.Option.{get_or_from_slice_get, slice_get_within, slice_get-get_or}
use Rattle.component_keys.specs.Components.{holds, calls_of}
use Rattle.component_keys.specs.Laws.{IsCallGraph}
use Rattle.component_keys.proofs.Basics.{not_none, mapped_some, at_map}
use Rattle.component_keys.proofs.Ordered.{held_at}
use Rattle.component_keys.proofs.Reach.{holds_at}
use Rattle.call_components.specs.Graphs.{IsTested}
use Rattle.call_components.specs.Reaching.{AreDefined, rows}
use Rattle.call_components.proofs.Walk.{row_of}

-- things whose names differ stand at one place where their names are the same
pub differ_at : {X : Type 0} (f : X → List ℕ) (xs : List X) → AllPairs (λ one other. f one ≢ f other) xs → (i j : ℕ) (x y : X) →
    slice_get xs i ≡ Some x → slice_get xs j ≡ Some y → f x ≡ f y → i ≡ j
differ_at f xs apart i j x y at_i at_j same =
    let within_i = slice_get_within xs i x at_i in
    let within_j = slice_get_within xs j y at_j in
    let is_x : get_or xs i x ≡ x = get_or_from_slice_get xs i x x at_i in
    let is_y : get_or xs j x ≡ y = get_or_from_slice_get xs j y x at_j in
    ⊎_elim
    (λ lt. absurd (apart i j x lt within_j (ap f is_x ∙ same ∙ ap f (sym is_y))))
    (λ ge. ⊎_elim (λ lt. absurd (apart j i x lt within_i (ap f is_y ∙ sym same ∙ ap f (sym is_x)))) (λ le. omega (arith, ge, le))
    (cases_lt j i))
    (cases_lt i j)

differ_all : (names : List (List ℕ)) → ((i j : ℕ) (name : List ℕ) → slice_get names i ≡ Some name → slice_get names j ≡ Some name → i ≡ j) →
    AllPairs (λ (one other : List ℕ). one ≢ other) names
differ_all names differ i j d lt within same =
    let at_i = slice_get-get_or names i d (omega (arith, lt, within)) in
    let at_j = slice_get-get_or names j d within in
    let place : i ≡ j = differ i j (get_or names i d) at_i (at_j ∙ ap (λ n. Some n) (sym same)) in
    omega (arith, place, lt)

defined_of : (calls : List (Vec ℕ)) → All (λ (row : Vec ℕ). All (λ number. number < length calls) row.items) calls → AreDefined (rows calls)
defined_of calls all number callee h = by_row (slice_get (rows calls) number) refl
  where
    row : List ℕ
    row = calls_of (rows calls) number

    nothing_at : (lists : List (List ℕ)) (k : ℕ) → slice_get lists k ≡ None → get_or lists k [] ≡ []
    nothing_at [] k none = refl
    nothing_at (first ∷ rest) zero none = not_none (sym none)
    nothing_at (first ∷ rest) (suc k) none = nothing_at rest k none

    by_row : (o : Option (List ℕ)) → slice_get (rows calls) number ≡ o → callee < length (rows calls)
    by_row None e =
        let place = held_at row callee h in
        not_none (ap (λ l. slice_get l place.0) (sym (nothing_at (rows calls) number e)) ∙ place.1)
    by_row (Some own) e =
        let one =
        mapped_some (λ (v : Vec ℕ). v.items) (slice_get calls number) own (sym (at_map (λ (v : Vec ℕ). v.items) calls number) ∙ e) in
        let same : row ≡ own = get_or_from_slice_get (rows calls) number own [] e in
        let place = held_at row callee h in
        let within = all number one.0 (slice_get_within calls number one.0 one.1) in
        let items : slice_get one.0.items place.0 ≡ Some callee =
        ap (λ l. slice_get l place.0) (sym one.2) ∙ ap (λ l. slice_get l place.0) (sym same) ∙ place.1 in
        let is_one : get_or calls number one.0 ≡ one.0 = get_or_from_slice_get calls number one.0 one.0 one.1 in
        let less : callee < length calls =
        subst (λ k. k < length calls) (get_or_from_slice_get one.0.items place.0 callee callee items)
        ((subst (λ (v : Vec ℕ). All (λ n. n < length calls) v.items) is_one within) place.0 callee
        (slice_get_within one.0.items place.0 callee items)) in
        subst (λ n. callee < n) (sym (length-map calls (λ v. v.items))) less

all_defined : (calls : List (Vec ℕ)) → AreDefined (rows calls) →
    All (λ (row : Vec ℕ). All (λ number. number < length calls) row.items) calls
all_defined calls defined i d lt k e within =
    let row : Vec ℕ = get_or calls i d in
    let is : row ≡ get_or calls i row = get_or_default calls i d row lt in
    let held : holds (calls_of (rows calls) i) (get_or row.items k e) ≡ true =
    subst (λ l. holds l (get_or row.items k e) ≡ true) (sym (row_of calls i row lt is))
    (holds_at row.items k (get_or row.items k e) (slice_get-get_or row.items k e within)) in
    subst (λ n. get_or row.items k e < n) (length-map calls (λ v. v.items)) (defined i (get_or row.items k e) held)

graph_of : (names : List (List ℕ)) (calls : List (Vec ℕ)) → length names ≡ length calls →
    AllPairs (λ (one other : List ℕ). one ≢ other) names → All (λ (row : Vec ℕ). All (λ number. number < length calls) row.items) calls →
    IsCallGraph names (rows calls)
graph_of names calls lengths apart all = record {
  lengths = lengths ∙ sym (length-map calls (λ v. v.items));
  differ = λ i j name at_i at_j. differ_at (λ (n : List ℕ). n) names apart i j name name at_i at_j refl;
  defined = defined_of calls all;
}

pub graph_of_tested : (names : List (List ℕ)) (calls : List (Vec ℕ)) → IsTested names calls → IsCallGraph names (rows calls)
graph_of_tested names calls tested = graph_of names calls tested.lengths tested.apart tested.within

pub tested_of : (names : List (List ℕ)) (calls : List (Vec ℕ)) → IsCallGraph names (rows calls) → IsTested names calls
tested_of names calls graph = record {
  lengths = graph.lengths ∙ length-map calls (λ v. v.items);
  apart = differ_all names graph.differ;
  within = all_defined calls graph.defined;
}
